-- What a read gives to a reader, and which part it reads.
use Rattle.std.proofs.Common.{◌≡◌, ◌⊎◌, inl, inr, ℕ, ◌≤◌, Bool, true, false, ◌||◌, not, List}
use Rattle.std.proofs.Common.{length, take, min, Option, Some, None, ap, sym, ◌∙◌, refl, arith}
use Rattle.std.proofs.Common.{true≢false, is_some, bytes_eq, if◌then◌else◌}
use Rattle.std.specs.Prelude.{IsTrue, ◌==◌, codes}
use Rattle.std.proofs.lemmas.Bool.{cases_eq, eq-eqb, ne_eqb}
use Rattle.std.proofs.lemmas.List.{length-take}
use Rattle.chk_site.specs.declared.suffixes.Piece.{Piece}
use Rattle.chk_site.specs.Suffixes.{is_suffix}
use Rattle.chk_site.specs.CutLaws.{TakesToStop}
use Rattle.chk_site.specs.Logs.{TheBase, Past, part_of}
use Rattle.chk_control.specs.declared.Class.{Class}
use Rattle.chk_control.specs.Classes.{is_plain}
use Rattle.chk_world.specs.Checkpoints.{is_after_text}
use Rattle.chk_world.specs.Reading.{part_for}
use Rattle.chk_world.proofs.Ends.{bytes_same}
use Rattle.chk_site.specs.declared.limits.TheConstants.{PIECE_BYTES}
use Rattle.chk_tail.specs.Taking.{to_last_newline, taken, taken_of}
use Rattle.chk_tail.specs.Walks.{part}
use Rattle.chk_tail.proofs.Newlines.{last_newline}
use Rattle.chk_tail.proofs.Takes.{takes_most}

pub take_length : (n : ℕ) (bytes : List ℕ) → n ≤ length bytes → length (take n bytes) ≡ n
take_length n bytes short =
    length-take n bytes ∙ (let z : min n (length bytes) ≡ n = omega (arith, short) in z)

pub taken_all : (lines : Bool) (piece : Piece) (suffix : List ℕ) → piece.ended ≡ Some suffix
    → taken_of lines piece ≡ length piece.bytes
taken_all true piece suffix e = ap (λ o. taken true (is_some o) piece.bytes) e
taken_all false piece suffix e = refl

pub taken_within : (lines : Bool) (piece : Piece) → taken_of lines piece ≤ length piece.bytes
taken_within lines piece =
    go (not lines || is_some piece.ended) (cases_eq (to_last_newline piece.bytes) 0)
    (cases_eq (length piece.bytes) PIECE_BYTES)
  where
    k : ℕ
    k = to_last_newline piece.bytes

    go : (all : Bool) → (to_last_newline piece.bytes ≡ 0) ⊎ (to_last_newline piece.bytes ≡ 0 → ⊥)
        → (length piece.bytes ≡ PIECE_BYTES) ⊎ (length piece.bytes ≡ PIECE_BYTES → ⊥)
        → (if all then length piece.bytes
        else if to_last_newline piece.bytes == 0 then
        (if length piece.bytes == PIECE_BYTES then PIECE_BYTES else 0) else to_last_newline
        piece.bytes)
        ≤ length piece.bytes
    go true c d = omega arith
    go false (inl none) (inl whole) =
        let t : (to_last_newline piece.bytes == 0) ≡ true = eq-eqb
        (to_last_newline piece.bytes) 0 none in
        let u : (length piece.bytes == PIECE_BYTES) ≡ true = eq-eqb
        (length piece.bytes) PIECE_BYTES whole in
        rw (t, u) (omega (arith, whole))
    go false (inl none) (inr part) =
        let t : (to_last_newline piece.bytes == 0) ≡ true = eq-eqb
        (to_last_newline piece.bytes) 0 none in
        let u : (length piece.bytes == PIECE_BYTES) ≡ false = ne_eqb
        (length piece.bytes) PIECE_BYTES part in
        rw (t, u) (omega arith)
    go false (inr some) d =
        let t : (to_last_newline piece.bytes == 0) ≡ false = ne_eqb
        (to_last_newline piece.bytes) 0 some in
        rw t (last_newline piece.bytes).within

pub takes_to_stop : (lines : Bool) (piece : Piece) (max : ℕ) → max ≤ PIECE_BYTES
    → TakesToStop lines max piece (taken_of lines piece)
takes_to_stop lines piece max small g at may given =
    (takes_most lines piece g at max small may given).stop

suffix_part : (suffix : List ℕ) → is_suffix suffix ≡ true → part_of suffix ≡ Past (Some suffix)
suffix_part suffix is = go (bytes_eq suffix (codes "base")) refl (bytes_eq suffix (codes "-")) refl
  where
    go : (a : Bool) → bytes_eq suffix (codes "base") ≡ a → (b : Bool)
        → bytes_eq suffix (codes "-") ≡ b
        → (if a then TheBase else if b then Past None else Past (Some suffix)) ≡ Past (Some suffix)
    go true e b f =
        absurd (true≢false (sym is ∙ ap is_suffix (bytes_same suffix (codes "base") e)))
    go false e true f =
        absurd (true≢false (sym is ∙ ap is_suffix (bytes_same suffix (codes "-") f)))
    go false e false f = refl

pub part_is : (class : Class) (after : Option (List ℕ)) → IsTrue (is_after_text after)
    → part_of (part (not (is_plain class)) after) ≡ part_for class after
part_is class after named = go (is_plain class) after named
  where
    go : (plain : Bool) (after : Option (List ℕ)) → IsTrue (is_after_text after)
        → part_of (part (not plain) after) ≡ (if plain then TheBase else Past after)
    go true after named = refl
    go false None named = refl
    go false (Some suffix) named = suffix_part suffix named
