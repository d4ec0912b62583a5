use Rattle.client.proofs.Following.{feeds_inside}

pub returns : Rattle.client.proofs.client.Client.feed.Goals.returns
returns c =
    feeds_inside _ _ c.self.view_is c.feed.new.mirror c.sent.new.self c.waiting.result.now c.waiting-count.result.now c.sent.result c.waiting.ensures
    c.waiting-count.ensures c.in_ok-feed.ensures.ok c.sent.ensures.takes_none c.sent.ensures.stands
