-- Records that are passed over.
use Rattle.std.proofs.Common.{◌≡◌, ℕ, ◌+◌, ◌<◌, List, [], ◌++◌, length, take, drop, Some, None, sym, ap, subst, ◌∙◌, append_assoc, arith, length-append, length-take}
use Rattle.std.proofs.lemmas.List.{nil_from_length, take-append-drop}
use Rattle.chk_salvage.specs.Feeding.{fed_place, IsFed}
use Rattle.chk_salvage.specs.declared.pieces.Pieces.{Pieces}
use Rattle.chk_record_index.specs.Feeding.{FedFrom}

-- a piece that is fed behind what was fed
pub fed_on : (p q : Pieces) (piece : List ℕ) → fed_place q ≡ fed_place p → ((fed : List ℕ) → IsFed p fed → IsFed q (fed ++ piece)) → FedFrom p q None piece
fed_on p q piece place fed = record {
  place = place;
  state = λ front missing h all.
      let none : missing ≡ [] = nil_from_length missing (omega (arith, all)) in
      subst (λ m. IsFed q (front ++ (m ++ piece))) (sym none) (fed front h);
}

-- or from the last byte of a record on that is passed over
pub fed_behind : (p q r : Pieces) (last : ℕ) (piece tail : List ℕ) → 0 < length piece → tail ≡ drop 1 piece → fed_place q ≡ last + 1 → fed_place r ≡ fed_place q
    → ((fed missing : List ℕ) → IsFed p fed → length fed + length missing ≡ last + 1 → IsFed q (fed ++ missing))
    → ((fed : List ℕ) → IsFed q fed → IsFed r (fed ++ tail)) → FedFrom p r (Some last) piece
fed_behind p q r last piece tail some is place same passed fed = record {
  place = same ∙ place;
  state = λ front missing h all.
      let one : List ℕ = take 1 piece in
      let size : length one ≡ 1 = omega (arith, length-take 1 piece, some) in
      let state = passed front (missing ++ one) h (omega (arith, all, size, length-append missing one)) in
      subst (IsFed r)
      (append_assoc front (missing ++ one) tail ∙ ap (λ x. front ++ x) (append_assoc missing one tail
      ∙ ap (λ x. missing ++ x) (ap (λ x. one ++ x) is ∙ take-append-drop 1 piece)))
      (fed (front ++ (missing ++ one)) state);
}
