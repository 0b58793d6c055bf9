use Rattle.chk_ctl_check.proofs.looking.see_names.Goals as goal

pub returns : goal.returns
returns g c = record {
  told = (
    c.in_ok-troubles.troubles.items,
    rw c.is_there-is_there.ensures at c.in_ok-troubles.ensures.told,
    c.in_ok-add_beside.ensures,
  );
  own = c.ask_log.ensures.own;
  count = c.ask_log.ensures.count;
}
