mod Following
mod Pages
