use Rattle.std.proofs.Common.{◌≡◌, ℕ, ◌+◌, ◌-◌, ◌≤◌, ◌<◌, Bool, true, false, List, [], ◌∷◌, length, take, drop, ap, sym, ◌∙◌, arith, length-append, if◌then◌else◌}
use Rattle.std.specs.Prelude.{◌||◌, nat_lt}
use Rattle.std.proofs.lemmas.List.{take-append-drop, length-take-le, take_rest}
use Rattle.chk_chunk.specs.Keys.{record_limit}
use Rattle.chk_world.specs.Splits.{has_stamp}
use Rattle.chk_demux_split.specs.Splitting.{complete_size}
use Rattle.chk_demux_split.proofs.lines.complete_size.Goals as goal

stamped : (p f : List ℕ) (t : Bool) → 0 < length p
    → (has_stamp f || nat_lt record_limit (length p + length f)) ≡ t
    → complete_size true p f ≡ (if t then length p else 0)
stamped [] f t some e = absurd (let z : ⊥ = omega (arith, some) in z)
stamped (b ∷ p) f t some e = ap (λ t. if t then length (b ∷ p) else 0) e

whole : (h : List ℕ) (b : ℕ) → length (take b h) + length (drop b h) ≡ length h
whole h b = sym (length-append (take b h) (drop b h)) ∙ ap length (take-append-drop b h)

by_stamp : (h : List ℕ) (b : ℕ) (t s : Bool) → b ≤ length h → 0 < b → t ≡ true
    → (has_stamp (drop b h) || nat_lt record_limit (length h)) ≡ s
    → (if s then b else 0) ≡ complete_size t (take b h) (drop b h)
by_stamp h b t s within some e is =
    let size = length-take-le b h within in
    ap (λ n. if s then n else 0) (sym size)
    ∙ sym (stamped (take b h) (drop b h) s (omega (arith, size, some))
    (ap (λ n. has_stamp (drop b h) || nat_lt record_limit n) (whole h b) ∙ is))
    ∙ ap (λ t. complete_size t (take b h) (drop b h)) (sym e)

whole_line : (h : List ℕ) (b : ℕ)
    → (has_stamp (take (length h - b) (drop b h)) || nat_lt record_limit (length h))
    ≡ (has_stamp (drop b h) || nat_lt record_limit (length h))
whole_line h b =
    ap (λ l. has_stamp l || nat_lt record_limit (length h)) (take_rest h b)

pub returns-then-begins : goal.returns-then-begins
returns-then-begins c =
    by_stamp c.args.held.now c.args.begun c.args.by_stamps true (omega (arith, c.requires))
    (omega arith) c.if-not-by_stamps.false
    (sym (whole_line c.args.held.now c.args.begun) ∙ sym c.begins_record-begins.ensures ∙ c.if-begins.true)

pub returns-else-begins : goal.returns-else-begins
returns-else-begins c =
    by_stamp c.args.held.now c.args.begun c.args.by_stamps false (omega (arith, c.requires))
    (omega arith) c.if-not-by_stamps.false
    (sym (whole_line c.args.held.now c.args.begun) ∙ sym c.begins_record-begins.ensures ∙ c.if-begins.false)
