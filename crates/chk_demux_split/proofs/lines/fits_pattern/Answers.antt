use Rattle.std.proofs.Common.{◌≡◌, ℕ, ◌+◌, ◌≤◌, ◌<◌, Bool, true, false, List, length, drop, get_or, ap, ap₂, sym, ◌∙◌, arith}
use Rattle.std.specs.Prelude.{◌&&◌}
use Rattle.std.proofs.lemmas.List.{drop_more, drop_all}
use Rattle.chk_world.specs.Splits.{fits_pattern}
use Rattle.chk_demux_split.specs.LineFronts.{fits_one}
use Rattle.chk_demux_split.proofs.lines.fits_pattern.Goals as goal

short : (ps bs : List ℕ) (i : ℕ) → i < length ps → length bs ≤ i
    → fits_pattern (drop i ps) (drop i bs) ≡ false
short ps bs i within past = ap₂ fits_pattern (drop_more ps i 0 within) (drop_all i bs past)

one : (ps bs : List ℕ) (i : ℕ) (t : Bool) → i < length ps → i < length bs
    → fits_one (get_or ps i 0) (get_or bs i 0) ≡ t
    → fits_pattern (drop i ps) (drop i bs)
    ≡ (t && fits_pattern (drop (i + 1) ps) (drop (i + 1) bs))
one ps bs i t within there e =
    ap₂ fits_pattern (drop_more ps i 0 within) (drop_more bs i 0 there)
    ∙ ap (λ b. b && fits_pattern (drop (i + 1) ps) (drop (i + 1) bs)) e

pub returns-then-at-bytes : goal.returns-then-at-bytes
returns-then-at-bytes c =
    sym (short c.args.pattern.now c.args.bytes.now c.loop-at.at (omega arith) (omega arith))
    ∙ c.loop-at.invariant

pub loop-at-preserved : goal.loop-at-preserved
loop-at-preserved c =
    sym (one c.args.pattern.now c.args.bytes.now c.loop-at.at true (omega arith) (omega arith)
    (sym c.fits_byte-fits.ensures ∙ c.if-not-fits.false))
    ∙ c.loop-at.invariant

pub returns-then-not-fits : goal.returns-then-not-fits
returns-then-not-fits c =
    sym (one c.args.pattern.now c.args.bytes.now c.loop-at.at false (omega arith) (omega arith)
    (sym c.fits_byte-fits.ensures ∙ c.if-not-fits.true))
    ∙ c.loop-at.invariant
