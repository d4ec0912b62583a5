pub returns-in-Ok-Some : Rattle.rvdap.proofs.editors.serve_first.Goals.returns-in-Ok-Some
returns-in-Ok-Some g c s st = record {
  first = Rattle.rvdap.specs.Editors.Connection _ _;
  opened = rw c.in-Ok-Some.field-0-is at c.in-Ok-Some.ensures.found;
  is_first = c.serve_one.ensures s st;
}
