-- Of records past the gaps the first of those that repeat each other is kept.
use Rattle.std.proofs.Common.{◌≡◌, ◌∙◌, inl, inr, ℕ, ◌+◌, ◌≤◌, ◌<◌, Bool, true, false, true≢false, List, [], ◌∷◌, ◌++◌, length, drop, Result, Ok, Err, ap, sym, subst, refl, arith}
use Rattle.std.specs.Prelude.{All, Contains, nat_lt, slice_index_or}
use Rattle.std.proofs.lemmas.Bool.{cases_Bool, ltb-true, ltb-false}
use Rattle.std.proofs.lemmas.List.{append-nil}
use Rattle.std.proofs.lemmas.List.Elements.{All-nil, All-push, All-contains_itself, Contains-get_or, Contains-append_left, Contains-push}
use Rattle.chk_record_index.specs.Heads.{Head}
use Rattle.chk_record_index.specs.declared.fault.JobFault.{JobFault}
use Rattle.chk_archive_parts.specs.declared.cuts.Cut.{Cut}
use Rattle.chk_archive_parts.specs.Kept.{AreKeptOf, goes_on, group_of, new_cut}
use Rattle.chk_archive_parts.proofs.CutLists.{no_cut}

pub all_kept_of : (heads : List Head) (past : List Cut) → AreKeptOf heads past (length past) past
all_kept_of heads past = record {
  among = All-contains_itself past;
  firsts = λ i low e. Contains-get_or past i no_cut low;
}

pub none_kept_of : (heads : List Head) (past : List Cut) → AreKeptOf heads past 0 []
none_kept_of heads past = record {
  among = All-nil (Contains past);
  firsts = λ i low e. absurd (let z : ⊥ = omega (arith, low) in z);
}

pub more_kept_of : (heads : List Head) (past cuts now : List Cut) (place : ℕ) (b : Bool)
    → place < length past
    → (goes_on heads past place ≡ false → b ≡ false)
    → now ≡ cuts ++ new_cut b (slice_index_or past place no_cut)
    → AreKeptOf heads past place cuts → AreKeptOf heads past (place + 1) now
more_kept_of heads past cuts now place true low new is k =
    subst (AreKeptOf heads past (place + 1)) (sym (is ∙ append-nil cuts))
    (record {
      among = k.among;
      firsts = λ i below e. elim (cases_Bool (nat_lt i place)) [
        | inl t ↦ k.firsts i (ltb-true i place t) e
        | inr f ↦
            let high = ltb-false i place f in
            let same : i ≡ place = omega (arith, below, high) in
            absurd (true≢false (new (sym (ap (goes_on heads past) same) ∙ e)))
      ];
    })
more_kept_of heads past cuts now place false low new is k =
    let at = slice_index_or past place no_cut in
    subst (AreKeptOf heads past (place + 1)) (sym is)
    (record {
      among = All-push (Contains past) cuts at k.among (Contains-get_or past place no_cut low);
      firsts = λ i below e. elim (cases_Bool (nat_lt i place)) [
        | inl t ↦
            Contains-append_left cuts (at ∷ []) (slice_index_or past i no_cut)
            (k.firsts i (ltb-true i place t) e)
        | inr f ↦
            let high = ltb-false i place f in
            let same : i ≡ place = omega (arith, below, high) in
            subst (λ j. Contains (cuts ++ at ∷ []) (slice_index_or past j no_cut)) (sym same)
            (Contains-push cuts at)
      ];
    })

pub all_done : (heads : List Head) (past cuts : List Cut) (place : ℕ) → length past ≤ place
    → AreKeptOf heads past place cuts → AreKeptOf heads past (length past) cuts
all_done heads past cuts place all k = record {
  among = k.among;
  firsts = λ i low e. k.firsts i (omega (arith, low, all)) e;
}

pub same_ok : (b c : Bool) (r : Result Bool JobFault) → r ≡ Ok b → r ≡ Ok c → b ≡ c
same_ok b c r e f = ap is_ok (sym e ∙ f)
  where
    is_ok : Result Bool JobFault → Bool
    is_ok (Ok x) = x
    is_ok (Err fault) = false

-- where the record doesn't repeat the one before it, none is known that is alike
pub none_left : (cuts : List Cut) (b : Bool) (group : ℕ) → b ≡ false
    → drop (group_of b group (length cuts)) cuts ≡ []
none_left cuts b group e = ap (λ x. drop (group_of x group (length cuts)) cuts) e ∙ all_gone cuts
  where
    all_gone : (xs : List Cut) → drop (length xs) xs ≡ []
    all_gone [] = refl
    all_gone (x ∷ xs) = all_gone xs
