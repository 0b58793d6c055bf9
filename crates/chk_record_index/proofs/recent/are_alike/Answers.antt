use Rattle.std.proofs.Common.{sym, ap₂, ◌∙◌}
use Rattle.std.specs.Prelude.{bytes_eq}
use Rattle.std.proofs.lemmas.List.{take_rest}
use Rattle.std.proofs.lemmas.Slice.Eq.{bytes_eq-Decides}
use Rattle.chk_record_index.proofs.recent.are_alike.Goals as goal

pub returns-then-a-b-2 : goal.returns-then-a-b-2
returns-then-a-b-2 c = λ is. record {
  long = c.if-a-lt-SEQ_END.false;
  size = c.if-a-b.false;
  first = c.if-a-b-2.true;
  rest = (bytes_eq-Decides _ _).0
      (ap₂ bytes_eq (sym (take_rest c.args.a.now 9)) (sym (take_rest c.args.b.now 9)) ∙ (sym c.eq.ensures ∙ is));
}
