-- A verdict that is `Passed` says that each line of the log is behind its oldest generation.
use Rattle.std.proofs.Common.{◌≡◌, ℕ, true, false, Bool, List, Option, Some, None, refl, sym}
use Rattle.std.proofs.Common.{subst}
use Rattle.std.specs.Prelude.{IsTrue, not, ◌||◌, bytes_eq}
use Rattle.std.proofs.lemmas.List.Sums.{AllPass-from_list_all}
use Rattle.std.proofs.lemmas.List.Elements.{All-contains}
use Rattle.std.proofs.lemmas.Slice.Eq.{bytes_eq-Decides}
use Rattle.chk_bytes.specs.Words.{text_lt}
use Rattle.chk_site.specs.Suffixes.{is_after}
use Rattle.chk_world.specs.Checkpoints.{Line}
use Rattle.chk_ctl_passed.specs.declared.judging.Verdict.TheVariants.{Passed}
use Rattle.chk_ctl_passed.specs.Judging.{all_passed, has_line, is_of, passes, verdict_by}
use Rattle.chk_ctl_passed.specs.Laws.{PassedIsBehind}

both_so : (known passed : Bool) → verdict_by known passed ≡ Passed → passed ≡ true
both_so known true is = refl
both_so true false is = absurd (let x : verdict_by true false ≡ Passed = is in cc)
both_so false false is = absurd (let x : verdict_by false false ≡ Passed = is in cc)

behind : (after : Option (List ℕ)) (suffix : List ℕ) → not (is_after after suffix) ≡ true
    → (text : List ℕ) × (after ≡ Some text) × (IsTrue (text_lt text suffix) → ⊥)
behind None suffix is = absurd (let x : false ≡ true = is in cc)
behind (Some text) suffix is = (text, refl, by (text_lt text suffix) is)
  where
    by : (b : Bool) → not b ≡ true → b ≡ true → ⊥
    by true is so = let x : false ≡ true = is in cc
    by false is so = let x : false ≡ true = so in cc

of_it : (b c : Bool) → b ≡ true → (not b || c) ≡ true → c ≡ true
of_it true c h is = is
of_it false c h is = absurd (let x : false ≡ true = h in cc)

pub passed_is_behind : PassedIsBehind
passed_is_behind lines path suffix l is has same =
    let all = both_so (has_line lines path) (all_passed lines path suffix) is in
    let one : passes path suffix l ≡ true =
    All-contains (λ (m : Line). passes path suffix m ≡ true) lines l
    (AllPass-from_list_all (passes path suffix) lines all) has in
    behind l.after suffix
    (of_it (is_of path l) (not (is_after l.after suffix))
    (subst (λ p. bytes_eq p path ≡ true) (sym same) ((bytes_eq-Decides path path).1 refl)) one)
