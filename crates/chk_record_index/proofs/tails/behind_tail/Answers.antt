use Rattle.std.proofs.Common.{◌≡◌, ◌++◌, ℕ, List, Some, sym, subst, ◌∙◌, rules, arith}
use Rattle.std.proofs.lemmas.Bool.Decides.{Decides-eqb}
use Rattle.std.proofs.lemmas.Slice.Eq.{strip_prefix_is}
use Rattle.chk_bytes.specs.Numbers.{be64}
use Rattle.chk_chunk.specs.Keys.{counted, counted_stream}
use Rattle.chk_chunk.specs.Lent.{lent_chunk}
use Rattle.chk_chunk.proofs.KeyLemmas.{word_fits, key_facts}
use Rattle.chk_record_index.specs.Passing.{Passes}
use Rattle.chk_record_index.proofs.PassedTails.{both_passed, tail_of_2}
use Rattle.chk_record_index.proofs.tails.behind_tail.Goals as goal

pub behind_text-requires : goal.behind_text-requires
behind_text-requires c = omega (arith, word_fits _ (key_facts (lent_chunk c.args.chunk.now).key c.requires).cluster)

pub returns : goal.returns
returns c =
    let bytes = c.args.bytes.now in
    let k = (lent_chunk c.args.chunk.now).key in
    let stream = c.in_ok-stream.stream in
    let r = c.behind_text.result in
    let texts = counted_stream k.stream ++ counted k.cluster in
    let start : c.to_be_bytes.result ≡ be64 k.start = search rules in
    subst (λ (t : List ℕ). Passes t bytes r) (sym (tail_of_2 k (λ e. c.if-version_of-eq1.false (c.version_of.ensures ∙ e))))
    (subst (λ (s : List ℕ). Passes (s ++ texts) bytes r) start
    (both_passed c.to_be_bytes.result texts bytes stream.now r
    (strip_prefix_is Decides-eqb bytes c.to_be_bytes.result (Some stream) c.in_ok-stream.ensures.cases)
    (both_passed (counted_stream k.stream) (counted k.cluster) stream.now c.in_ok-behind_stream.field-0.now r
    c.in_ok-behind_stream.ensures c.behind_text.ensures)))
