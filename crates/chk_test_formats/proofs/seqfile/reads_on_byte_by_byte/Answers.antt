use Rattle.std.proofs.Common.{ℕ, ◌+◌, List, Option, take, drop, arith, sym, subst}
use Rattle.std.proofs.lemmas.List.{take-append-drop, take-take}
use Rattle.chk_seqfile.specs.declared.headers.TextsLeft.{TextsLeft}
use Rattle.chk_seqfile.specs.HeaderSteps.{HasCome}
use Rattle.chk_seqfile.proofs.HeaderStepLemmas.{HasCome-append}
use Rattle.chk_test_formats.proofs.seqfile.reads_on_byte_by_byte.Goals as goal

-- what was read of a front stays read
come_all : (from : Option TextsLeft) (n : ℕ) (bytes : List ℕ) → HasCome from (take n bytes) → HasCome from bytes
come_all from n bytes come =
    subst (HasCome from) (take-append-drop n bytes) (HasCome-append from (take n bytes) (drop n bytes) come)

pub loop-size-preserved : goal.loop-size-preserved
loop-size-preserved g c =
    let bytes = c.in_ok-bytes.bytes.items in
    let size = c.loop-size.size in
    let from = c.read_header_on-found.new.from in
    let come = subst (λ b. HasCome from (take size b)) c.deref.ensures.value c.read_header_on-found.ensures.come in
    let front = sym (take-take size (size + 1) bytes (omega arith)) in
    come_all from size (take (size + 1) bytes) (subst (HasCome from) front come)

pub read_header_on-requires : goal.read_header_on-requires
read_header_on-requires g c =
    let whole = come_all c.loop-end.from c.loop-end.size c.in_ok-bytes.bytes.items c.loop-end.invariant in
    record { come = subst (HasCome c.loop-end.from) (sym c.deref-2.ensures.value) whole }
