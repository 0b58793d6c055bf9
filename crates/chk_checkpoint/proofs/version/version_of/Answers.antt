use Rattle.std.proofs.Common.{◌≡◌, ap, ◌∙◌, ◌++◌, List, ℕ, drop, length, true, Bool}
use Rattle.std.specs.List.{starts_with}
use Rattle.std.proofs.Math.Dec.{eqb}
use Rattle.std.proofs.lemmas.Slice.Eq.{starts_is}
use Rattle.std.proofs.lemmas.Bool.Decides.{Decides-eqb}
use Rattle.chk_bytes.specs.Words.{BeginsWith}
use Rattle.chk_checkpoint.proofs.version.version_of.Goals as goal

begins : (text needle front : List ℕ) (r : Bool) → r ≡ starts_with eqb text needle → r ≡ true → needle ≡ front → BeginsWith text front
begins text needle front r value found e =
    (drop (length needle) text, (starts_is Decides-eqb text needle r value).0 found ∙ ap (λ f. f ++ drop (length needle) text) e)

pub returns-then-starts_with-clause-some : goal.returns-then-starts_with-clause-some
returns-then-starts_with-clause-some c =
    begins c.args.text.now c.first_line.result.now _ c.starts_with.result c.starts_with.ensures.value c.if-starts_with.true c.first_line.ensures

pub returns-then-starts_with-2-clause-some : goal.returns-then-starts_with-2-clause-some
returns-then-starts_with-2-clause-some c =
    begins c.args.text.now c.first_line-else-starts_with.result.now _ c.starts_with-else-starts_with.result
    c.starts_with-else-starts_with.ensures.value c.if-starts_with-2.true c.first_line-else-starts_with.ensures
