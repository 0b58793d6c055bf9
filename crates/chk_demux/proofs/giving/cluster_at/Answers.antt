use Rattle.std.proofs.Common.{◌≡◌, ◌∙◌, ℕ, suc, ◌+◌, ◌<◌, ◌≤◌, Bool, true, false, List, ap, sym, arith, if◌then◌else◌}
use Rattle.std.proofs.lemmas.Bool.{and_from, and_right, le-leb, lt-leb}
use Rattle.chk_chunk.specs.Keys.{Stream}
use Rattle.chk_record_index.specs.Heads.{Head}
use Rattle.chk_archive_plan.specs.Passes.{head_in}
use Rattle.chk_record_reader.specs.Courses.{is_head_of}
use Rattle.chk_book.specs.Views.{end_view}
use Rattle.chk_demux.specs.Giving.{holds_byte, cluster_back}
use Rattle.chk_demux.proofs.giving.cluster_at.Goals as goal

module _ (heads : List Head) (s : Stream) (at i : ℕ) where
  back_at : (b : Bool) → holds_byte s at (head_in heads i) ≡ b
      → cluster_back heads s at (i + 1) ≡ (if b then (head_in heads i).key.cluster else cluster_back heads s at i)
  back_at b is =
      ap (cluster_back heads s at) (let z : i + 1 ≡ suc i = omega arith in z)
      ∙ ap (λ b. if b then (head_in heads i).key.cluster else cluster_back heads s at i) is

  here : is_head_of s (head_in heads i) ≡ true → (head_in heads i).begin ≤ at
      → cluster_back heads s at (i + 1) ≡ (head_in heads i).key.cluster
  here own low =
      back_at true (and_from (is_head_of s (head_in heads i)) _ own (le-leb (head_in heads i).begin at low))

  below : at < (head_in heads i).begin → cluster_back heads s at (i + 1) ≡ cluster_back heads s at i
  below high =
      back_at false (and_right (is_head_of s (head_in heads i)) _ (lt-leb (head_in heads i).begin at high))

pub returns-then-head-at-clause-cluster : goal.returns-then-head-at-clause-cluster
returns-then-head-at-clause-cluster c =
    let heads : List Head = c.args.heads.now in
    let s : Stream = (end_view c.args.end.now).stream in
    let i : ℕ = c.args.index in
    let begins = ap (λ (h : Head). h.begin) c.requires.head.there in
    let reaches = c.if-head-at.true in
    ap (λ (h : Head). h.key.cluster) c.requires.head.there
    ∙ sym (here heads s c.args.at i c.requires.head.own (omega (arith, begins, reaches)))

pub returns-clause-cluster : goal.returns-clause-cluster
returns-clause-cluster c =
    let heads : List Head = c.args.heads.now in
    let s : Stream = (end_view c.args.end.now).stream in
    let i : ℕ = c.args.index in
    let begins = ap (λ (h : Head). h.begin) c.requires.head.there in
    let past = c.if-head-at.false in
    ap (λ (h : Head). h.key.cluster) c.get.ensures.head
    ∙ (c.in_ok-held.ensures.cluster ∙ sym (below heads s c.args.at i (omega (arith, begins, past))))
