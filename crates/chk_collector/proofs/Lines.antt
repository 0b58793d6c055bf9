-- One more line.
use Rattle.std.proofs.Common.{◌≡◌, ℕ, ◌*◌, ◌≤◌, List, [], ◌∷◌, ◌++◌, length, length-append, sym, ap, ◌∙◌, append_assoc, append-nil, arith}
use Rattle.chk_http_grammar.specs.Messages.{Ack, ack_text, acks_text}

pub acks_text-more : (acks : List Ack) (a : Ack) → acks_text acks ++ ack_text a ≡ acks_text (acks ++ a ∷ [])
acks_text-more [] a = sym (append-nil (ack_text a))
acks_text-more (b ∷ acks) a = append_assoc (ack_text b) (acks_text acks) (ack_text a) ∙ ap (λ t. ack_text b ++ t) (acks_text-more acks a)

pub short_more : {A : Type 0} (lines longer line : List ℕ) (done : List A) (x : A) → longer ≡ lines ++ line → length lines ≤ 126 * length done
    → length line ≤ 126 → length longer ≤ 126 * length (done ++ x ∷ [])
short_more lines longer line done x e short one =
    omega (arith, ap length e, length-append lines line, length-append done (x ∷ []))
