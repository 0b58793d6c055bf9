use Rattle.std.proofs.Common.{◌+◌, ◌<◌, ◌≤◌, length, get_or, drop, arith, sym, ap, ◌∙◌, length-drop}
use Rattle.chk_bytes.specs.Vints.{vint_number}
use Rattle.chk_bytes.proofs.VintLemmas.{before_short, before_negative, before_ok, before_large, vint_at-end, vint_at-within}
use Rattle.chk_bytes.proofs.vints.take_vint.Goals as goal

pub returns-then-at-bytes : goal.returns-then-at-bytes
returns-then-at-bytes c = vint_at-end c.args.bytes.now c.args.at c.if-at-bytes.true

pub returns-in_default : goal.returns-in_default
returns-in_default c =
    let bytes = c.args.bytes.now in
    let short : length (drop (c.args.at + 1) bytes) < c.vint_size-size.result =
    omega (arith, c.in_default.ensures, length-drop (c.args.at + 1) bytes) in
    sym (before_short c.args.at (get_or bytes c.args.at 0) c.vint_size-size.result
    (drop (c.args.at + 1) bytes) c.vint_size-size.ensures short)
    ∙ vint_at-within bytes c.args.at c.if-at-bytes.false

pub returns-then-begins_negative : goal.returns-then-begins_negative
returns-then-begins_negative c =
    let bytes = c.args.bytes.now in
    let whole : c.vint_size-size.result ≤ length (drop (c.args.at + 1) bytes) =
    let part = c.in-Some.ensures in omega (arith, part.1, length-drop (c.args.at + 1) bytes) in
    sym (before_negative c.args.at (get_or bytes c.args.at 0) c.vint_size-size.result
    (drop (c.args.at + 1) bytes) c.vint_size-size.ensures whole
    (sym c.if-begins_negative.ensures))
    ∙ vint_at-within bytes c.args.at c.if-at-bytes.false

pub returns-then-number : goal.returns-then-number
returns-then-number c =
    let bytes = c.args.bytes.now in
    let part = c.in-Some.ensures in
    let first = get_or bytes c.args.at 0 in
    let whole : c.vint_size-size.result ≤ length (drop (c.args.at + 1) bytes) =
    omega (arith, part.1, length-drop (c.args.at + 1) bytes) in
    let is = c.vint_number-number.ensures ∙ ap (vint_number first) part.0 in
    sym (before_ok c.args.at first c.vint_size-size.result c.vint_number-number.result
    (drop (c.args.at + 1) bytes) c.vint_size-size.ensures whole
    (sym c.if-begins_negative.ensures) is c.if-number.true)
    ∙ vint_at-within bytes c.args.at c.if-at-bytes.false

pub returns-else-number : goal.returns-else-number
returns-else-number c =
    let bytes = c.args.bytes.now in
    let part = c.in-Some.ensures in
    let first = get_or bytes c.args.at 0 in
    let whole : c.vint_size-size.result ≤ length (drop (c.args.at + 1) bytes) =
    omega (arith, part.1, length-drop (c.args.at + 1) bytes) in
    let is = c.vint_number-number.ensures ∙ ap (vint_number first) part.0 in
    sym (before_large c.args.at first c.vint_size-size.result c.vint_number-number.result
    (drop (c.args.at + 1) bytes) c.vint_size-size.ensures whole
    (sym c.if-begins_negative.ensures) is c.if-number.false)
    ∙ vint_at-within bytes c.args.at c.if-at-bytes.false
