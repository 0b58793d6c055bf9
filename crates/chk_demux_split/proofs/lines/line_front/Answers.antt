use Rattle.std.proofs.Common.{◌≡◌, ℕ, zero, suc, ◌+◌, ◌≤◌, ◌<◌, Bool, true, false, ◌==◌, ◌||◌, nat_le, List, [], length, take, get_or, ap, refl, sym, subst, ◌∙◌, arith, slice_index}
use Rattle.std.proofs.lemmas.List.{take_more, take-take, length-take-le}
use Rattle.std.proofs.lemmas.Bool.{lt-leb}
use Rattle.chk_chunk.specs.Keys.{chunk_limit}
use Rattle.chk_demux_split.specs.LineFronts.{GoesOn, ends_line}
use Rattle.chk_demux_split.proofs.LineLemmas.{goes_on_first, goes_on_more}
use Rattle.chk_demux_split.proofs.lines.line_front.Goals as goal

-- one byte more
next : (line bytes : List ℕ) (at : ℕ) (t : Bool) → at < length bytes
    → GoesOn line (take at bytes) false
    → ends_line (get_or bytes at 0) (length line + (at + 1)) ≡ t
    → GoesOn line (take (at + 1) bytes) t
next line bytes at t within on e =
    let size = length-take-le at bytes (omega arith) in
    subst (λ l. GoesOn line l t) (sym (take_more bytes at 0 within))
    (goes_on_more line (take at bytes) (get_or bytes at 0) t on
    (ap (λ n. ends_line (get_or bytes at 0) (length line + (n + 1))) size ∙ e))

-- none of the first bytes is a newline
abbrev NoneIn : List ℕ → ℕ → Type 0
NoneIn bytes n = (k : ℕ) → 0 ≤ k → k < n → (slice_index bytes k == 10) ≡ true → ⊥

-- another byte than a newline ends a line at the limit alone
ends_full : (b n : ℕ) → ((b == 10) ≡ true → ⊥) → ends_line b n ≡ nat_le chunk_limit n
ends_full b n other = by (b == 10) refl
  where
    by : (t : Bool) → (b == 10) ≡ t → ends_line b n ≡ nat_le chunk_limit n
    by true e = absurd (other e)
    by false e = ap (λ t. t || nat_le chunk_limit n) e

-- bytes without a newline go on with the line, which ends at the limit alone
without : (line bytes : List ℕ) (n : ℕ) → length line < chunk_limit → n ≤ length bytes
    → length line + n ≤ chunk_limit → NoneIn bytes n
    → GoesOn line (take n bytes) (nat_le chunk_limit (length line + n))
without line bytes zero few within room none =
    subst (GoesOn line []) (sym (lt-leb chunk_limit (length line + zero) (omega (arith, few))))
    (goes_on_first line few)
without line bytes (suc n) few within room none =
    subst (λ k. GoesOn line (take k bytes) (nat_le chunk_limit (length line + k))) (omega arith)
    (next line bytes n (nat_le chunk_limit (length line + (n + 1))) (omega (arith, within))
    (subst (GoesOn line (take n bytes)) (lt-leb chunk_limit (length line + n) (omega (arith, room)))
    (without line bytes n few (omega (arith, within)) (omega (arith, room))
    (λ k low high. none k low (omega (arith, high)))))
    (ends_full (get_or bytes n 0) (length line + (n + 1)) (none n (omega arith) (omega arith))))

-- up to the first newline in a front that is no longer than the line's room
to_newline : (line bytes : List ℕ) (r at : ℕ) → length line < chunk_limit → r ≤ length bytes
    → length line + r ≤ chunk_limit → at < length (take r bytes) → NoneIn (take r bytes) at
    → (slice_index (take r bytes) at == 10) ≡ true → GoesOn line (take (at + 1) bytes) true
to_newline line bytes r at few within room here none newline =
    let front = take r bytes in
    let size = length-take-le r bytes within in
    let below : length line + at < chunk_limit = omega (arith, size, here, room) in
    subst (λ l. GoesOn line l true) (take-take (at + 1) r bytes (omega (arith, size, here)))
    (next line front at true here
    (subst (GoesOn line (take at front)) (lt-leb chunk_limit (length line + at) below)
    (without line front at few (omega (arith, here)) (omega (arith, below)) none))
    (ap (λ t. t || nat_le chunk_limit (length line + (at + 1))) newline))

pub returns-in-Some-clause-front : goal.returns-in-Some-clause-front
returns-in-Some-clause-front c =
    let found = c.in-Some.ensures in
    to_newline c.args.line.now c.args.bytes.now c.min.result c.in-Some.at c.requires
    (omega (arith, c.min.ensures)) (omega (arith, c.min.ensures, c.requires)) found.0.high
    found.0.before found.1

pub returns-in-None-clause-front : goal.returns-in-None-clause-front
returns-in-None-clause-front c =
    let bytes = c.args.bytes.now in
    let r = c.min.result in
    let size = length-take-le r bytes (omega (arith, c.min.ensures)) in
    subst (λ k. GoesOn c.args.line.now (take k bytes) (nat_le chunk_limit (length c.args.line.now + k)))
    (sym size)
    (subst (λ l. GoesOn c.args.line.now l (nat_le chunk_limit (length c.args.line.now + r)))
    (take-take r r bytes (omega arith))
    (without c.args.line.now (take r bytes) r c.requires (omega (arith, size))
    (omega (arith, c.min.ensures, c.requires))
    (λ k low high. c.in-None.ensures k low (omega (arith, size, high)))))
