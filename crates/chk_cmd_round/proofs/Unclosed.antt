-- Where a run ends well, the listing showed no sink under writing.
use Rattle.std.proofs.Common.{◌≡◌, ℕ, ◌-◌, Bool, true, false, List, [], ◌∷◌, ◌++◌, Option, Some, None, Ok, Err, length, take, drop, ap, sym, ◌∙◌, refl, arith, bytes_eq, true≢false, if◌then◌else◌, cond}
use Rattle.std.specs.Prelude.{IsTrue, codes, count_by, find}
use Rattle.std.proofs.lemmas.List.{take-append-drop}
use Rattle.std.proofs.lemmas.List.Sums.{sum_by-cons}
use Rattle.std.proofs.lemmas.Option.{none-some}
use Rattle.chk_bytes.specs.Stems.{Stem, is_stem, read_stem, stem_text}
use Rattle.chk_bytes.proofs.StemLemmas.{read_stem-Some}
use Rattle.chk_site.specs.History.{History}
use Rattle.chk_world.specs.ArchiveRuns.{is_unclosed}
use Rattle.chk_world.proofs.Ends.{bytes_same}
use Rattle.chk_round.specs.declared.whole_round.Rounded.{Rounded}
use Rattle.chk_round.specs.Rounds.{RoundDone}
use Rattle.chk_cmd_round.specs.declared.ends.RoundEnd.TheVariants.{Unclosed}
use Rattle.chk_cmd_round.specs.Telling.{end_by, is_by_c1, is_of_c1, read_stem_of}

-- where none is found, none is counted
none_counted : (p : List ℕ → Bool) (xs : List (List ℕ)) → find p xs ≡ None → count_by p xs ≡ 0
none_counted p [] none = refl
none_counted p (x ∷ xs) none = go (p x) refl none (none_counted p xs)
  where
    go : (b : Bool) → p x ≡ b → cond b (Some x) (find p xs) ≡ None → (find p xs ≡ None → count_by p xs ≡ 0)
        → count_by p (x ∷ xs) ≡ 0
    go true is e more = absurd (none-some x (sym e))
    go false is e more =
        let rest = more e in
        let first = sum_by-cons (λ a. cond {A = ℕ} (p a) 1 0) x xs in
        let zero : cond {A = ℕ} (p x) 1 0 ≡ 0 = ap (λ b. cond {A = ℕ} b 1 0) is in
        omega (arith, rest, first, zero)

-- a name that is of the collector `c1` is spelled so
of_c1 : (name : List ℕ) → is_of_c1 name ≡ true
    → (x : Stem) × IsTrue (is_stem x) × (x.collector ≡ codes "c1") × (name ≡ stem_text x ++ codes ".chukwa")
of_c1 name is = by_end (bytes_eq (drop n name) (codes ".chukwa")) refl is
  where
    n : ℕ
    n = length name - length (codes ".chukwa")

    Goal : Type 0
    Goal = (x : Stem) × IsTrue (is_stem x) × (x.collector ≡ codes "c1") × (name ≡ stem_text x ++ codes ".chukwa")

    by_stem : IsTrue (bytes_eq (drop n name) (codes ".chukwa")) → (o : Option Stem) → read_stem (take n name) ≡ o
        → is_by_c1 o ≡ true → Goal
    by_stem e None r h = absurd (true≢false (sym h))
    by_stem e (Some x) r h =
        let s = read_stem-Some (take n name) x r in (
          x,
          s.1,
          bytes_same x.collector (codes "c1") h,
          sym (take-append-drop n name)
              ∙ (ap (λ t. t ++ drop n name) (sym s.0) ∙ ap (λ t. stem_text x ++ t) (bytes_same (drop n name) (codes ".chukwa") e)),
        )

    by_end : (b : Bool) → bytes_eq (drop n name) (codes ".chukwa") ≡ b
        → is_by_c1 (read_stem_of (if b then Some (take n name) else None)) ≡ true → Goal
    by_end true e h = by_stem e (read_stem (take n name)) refl h
    by_end false e h = absurd (true≢false (sym h))

-- none of `c1` was listed, so that a first one would be told
pub none_open : (source : List ℕ) (r : Rounded) (body history : History)
    → RoundDone (codes "c1") source r.agent r.report body history
    → end_by r.report.first_unclosed ≡ Ok tt → r.report.unclosed ≡ 0
none_open source r body history done ends = go r.report.first_unclosed refl ends
  where
    go : (o : Option (List ℕ)) → r.report.first_unclosed ≡ o → end_by o ≡ Ok tt → r.report.unclosed ≡ 0
    go None is e =
        let d = done.report.1 in
        d.ran.unclosed_is ∙ none_counted is_unclosed d.listing.names (sym d.first ∙ is)
    go (Some name) is e = by (is_of_c1 name) refl e
      where
        by : (b : Bool) → is_of_c1 name ≡ b → (if b then Ok (tt {0}) else Err (Unclosed name)) ≡ Ok (tt {0}) → r.report.unclosed ≡ 0
        by true c1 e = let x = of_c1 name c1 in absurd (done.first x.0 x.1 x.2 (is ∙ ap Some x.3))
        by false c1 e = absurd (let z : ⊥ = cc in z)
