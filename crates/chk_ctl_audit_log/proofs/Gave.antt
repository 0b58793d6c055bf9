-- What a step of a reader that gave bytes does to its place.
use Rattle.std.proofs.Common.{◌≡◌, inl, inr, ℕ, ◌+◌, ◌-◌, ◌<◌, ◌≤◌, false, List, ◌++◌, length}
use Rattle.std.proofs.Common.{take, min, Option, Some, None, Ok, Err, refl, sym, ◌∙◌, ap, subst}
use Rattle.std.proofs.Common.{arith}
use Rattle.std.proofs.Math.Seq.{take-append-add}
use Rattle.std.proofs.lemmas.List.{length-take, take_all}
use Rattle.chk_site.specs.declared.acts.Who.{Who}
use Rattle.chk_site.specs.declared.acts.CallFault.TheVariants.{Failed, Missing, Exists, Short}
use Rattle.chk_site.specs.declared.acts.CallFault.TheVariants.{NoMemory}
use Rattle.chk_site.specs.declared.suffixes.Piece.{Piece}
use Rattle.chk_site.specs.History.{History}
use Rattle.chk_tail.specs.declared.step.Step.TheVariants.{Bytes, AtEnd, Shrank}
use Rattle.chk_tail.specs.Taking.{taken_of}
use Rattle.chk_tail.specs.Walks.{Spot, Way, behind, Walks, decided, walked, unkept}
use Rattle.chk_rotate.specs.Readers.{Reader, Stepped}

-- the place is so many bytes further on, and there are some
abbrev pub Further : Spot → Spot → List ℕ → Type 0
Further p next bytes = (next.offset ≡ p.offset + length bytes) × (0 < length bytes)

behind_offset : (p : Spot) (o : Option (List ℕ)) (n : ℕ) → (behind p o n).offset ≡ p.offset + n
behind_offset p None n = refl
behind_offset p (Some suffix) n = refl

whole_taken : (way : Way) (piece : Piece) → way.lines ≡ false
    → taken_of way.lines piece ≡ length piece.bytes
whole_taken way piece plain = rw plain refl

at_piece : (p next : Spot) (piece : Piece) (bytes : List ℕ) (n : ℕ)
    → n ≡ length piece.bytes → 0 < n → bytes ≡ take n piece.bytes → next ≡ behind p piece.ended n
    → Further p next bytes
at_piece p next piece bytes n whole some is place =
    let size : length bytes ≡ n =
    ap length is
    ∙ (length-take n piece.bytes
    ∙ (let e : min n (length piece.bytes) ≡ n = omega (arith, whole) in e)) in (
      ap (λ (s : Spot). s.offset) place
          ∙ (behind_offset p piece.ended n ∙ ap (λ k. p.offset + k) (sym size)),
      subst (λ k. 0 < k) (sym size) some,
    )

pub gave : (way : Way) → way.lines ≡ false → (bytes : List ℕ) (e : ℕ) {next p : Spot}
    {marks : List Spot} {old new : Option History}
    → Walks way (Ok (Bytes bytes e)) next p marks old new → Further p next bytes
gave way plain bytes e {next = next}
    (decided {p = p} (Ok piece) told (ends, inl (some, is, place))) =
    at_piece p next piece bytes (taken_of way.lines piece) (whole_taken way piece plain) some
    (let x : bytes ≡ take (taken_of way.lines piece) piece.bytes = cc in x) place
gave way plain bytes e (decided (Ok piece) told (ends, inr (none, not_ended, is, place))) =
    absurd (let x : Ok (Bytes bytes e) ≡ Ok AtEnd = is in cc)
gave way plain bytes e (decided (Err (Short size)) told d) =
    absurd (let x : Ok (Bytes bytes e) ≡ Ok (Shrank _ size) = d.0 in cc)
gave way plain bytes e (decided (Err Failed) told d) = absurd d
gave way plain bytes e (decided (Err Missing) told d) = absurd d
gave way plain bytes e (decided (Err Exists) told d) = absurd d
gave way plain bytes e (decided (Err NoMemory) told d) = absurd d
gave way plain bytes e {next = next} (walked {p = p} piece suffix ended ends none told rest) =
    let r = gave way plain bytes e rest in
    (r.0 ∙ ap (λ k. k + length bytes) (let z : p.offset + 0 ≡ p.offset = omega arith in z), r.1)
gave way plain bytes e (unkept piece some told is place) =
    absurd (let x : Ok (Bytes bytes e) ≡ Err _ = is in cc)

-- what a step of the reader that gave bytes did
pub stepped_on : (who : Who) (old new : Reader) (bytes : List ℕ) (e : ℕ)
    {before after : Option History} → old.lines ≡ false
    → Stepped who old (Ok (Bytes bytes e)) new before after
    → Further old.read new.read bytes × (new.lines ≡ false) × (new.path ≡ old.path)
stepped_on who old new bytes e plain s = (
  subst (λ (r : Reader). Further old.read r.read bytes) (sym s.is)
      (gave _ plain bytes e s.walks),
  ap (λ (r : Reader). r.lines) s.is ∙ plain,
  ap (λ (r : Reader). r.path) s.is,
)

-- the first of the bytes, where some more came
pub taken_more : (text bytes : List ℕ) (n : ℕ) → length text ≤ n
    → take n (text ++ bytes) ≡ take n text ++ take (n - length text) bytes
taken_more text bytes n low =
    let e : length text + (n - length text) ≡ n = omega (arith, low) in
    subst (λ k. take k (text ++ bytes) ≡ text ++ take (n - length text) bytes) e
    (take-append-add text bytes (n - length text))
    ∙ ap (λ (xs : List ℕ). xs ++ take (n - length text) bytes) (sym (take_all n text low))
