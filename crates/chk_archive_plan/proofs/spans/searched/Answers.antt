use Rattle.std.proofs.Common.{rules, ◌≡◌, ℕ, [], sym, ◌∙◌, arith}
use Rattle.std.proofs.lemmas.Fn.{always_returns_same}
use Rattle.chk_chunk.specs.Keys.{stream_lt}
use Rattle.chk_record_index.specs.Heads.{Head}
use Rattle.chk_record_index.specs.Order.{lent_head}
use Rattle.chk_archive_plan.specs.declared.spans.Known.{Known}
use Rattle.chk_archive_plan.specs.Passes.{known_stream}
use Rattle.chk_archive_plan.proofs.KnownSearch.{parted, present, absent}
use Rattle.chk_archive_plan.proofs.spans.searched.Goals as goal
use Rattle.chk_archive_plan.proofs.spans.searched.Goals.{else-at-known-via-then-at-known+else-is_with, else-at-known-via-else-at-known}

pub returns-then-is_with-clause-some : goal.returns-then-is_with-clause-some
returns-then-is_with-clause-some c =
    let ks = c.args.known.now in
    let h : Head = lent_head c.args.head.now in
    let i : ℕ = c.partition_point-at.result in
    let none : Known = record {
      source = record { ref_ptr = (0, 0); now = [] };
      kind = record { ref_ptr = (0, 0); now = [] };
      name = record { ref_ptr = (0, 0); now = [] };
      start = 0;
      end = 0;
    } in
    let place =
    c.partition_point-at.ensures.partitioned (λ (k : Known). stream_lt (known_stream k) h.key.stream)
    (always_returns_same _ (λ a r. r ≡ stream_lt (known_stream a.0.now) h.key.stream) _ (λ a r f k. search rules))
    (parted ks h.key.stream c.requires) in
    present ks h.key.stream i none place c.if-at-known.true (sym c.is_with.ensures ∙ c.if-is_with.true)

pub returns-clause-none : goal.returns-clause-none
returns-clause-none c =
    let ks = c.args.known.now in
    let h : Head = lent_head c.args.head.now in
    let i : ℕ = c.partition_point-at.result in
    let none : Known = record {
      source = record { ref_ptr = (0, 0); now = [] };
      kind = record { ref_ptr = (0, 0); now = [] };
      name = record { ref_ptr = (0, 0); now = [] };
      start = 0;
      end = 0;
    } in
    let place =
    c.partition_point-at.ensures.partitioned (λ (k : Known). stream_lt (known_stream k) h.key.stream)
    (always_returns_same _ (λ a r. r ≡ stream_lt (known_stream a.0.now) h.key.stream) _ (λ a r f k. search rules))
    (parted ks h.key.stream c.requires) in
    absent ks h.key.stream i none c.requires place (λ low. elim c.else-at-known.branch [
      | else-at-known-via-then-at-known+else-is_with w ↦ sym w.is_with.ensures ∙ w.if-is_with.false
      | else-at-known-via-else-at-known w ↦ absurd (let past = w.if-at-known.false in let z : ⊥ = omega (arith, past, low) in z)
    ])
