-- What is written is accepted.
use Rattle.std.proofs.Common.{◌≡◌, ℕ, true, IsTrue, List, [], ◌∷◌, length, refl, ap, sym, ◌∙◌, arith, ◌≤◌, ◌<◌, ◌^◌}
use Rattle.std.specs.Prelude.{decimal, nat_le}
use Rattle.std.specs.List.{list_all}
use Rattle.std.proofs.lemmas.Bool.{and_parts, leb-true}
use Rattle.std.proofs.lemmas.List.{append-nil, take_all}
use Rattle.std.proofs.lemmas.Fmt.{length-decimal-le}
use Rattle.httparse.specs.Grammar.{Field, is_value_byte}
use Rattle.chk_bytes.specs.Words.{is_word}
use Rattle.chk_bytes.specs.Stems.{Stem}
use Rattle.chk_bytes.proofs.DecimalLemmas.{number_in_digits-decimal}
use Rattle.chk_bytes.proofs.WordLemmas.{word_facts}
use Rattle.chk_chunk.specs.Keys.{Chunk}
use Rattle.chk_chunk.specs.Posts.{post_limit, written_post}
use Rattle.chk_http_grammar.specs.Heads.{HasRequestHead, HasReplyHead, HasBody, stated_lengths, length_in}
use Rattle.chk_http_grammar.specs.Messages.{PostRequest, PollRequest, IsPostOf, IsReply, WrittenPost, WrittenPoll, WrittenReply, written_post_request}
use Rattle.chk_http_grammar.proofs.Texts.{is_between, is_between-wider, list_all-weaker, value_from_word, value_from_between, decimal_between, query_between, query_size}
use Rattle.chk_http_grammar.proofs.Printed.{post_head, poll_head, reply_head, print-post, print-poll, print-reply}
use Rattle.chk_http_grammar.proofs.Chunks.{written_is_posted}
use Rattle.chk_http_grammar.proofs.WrittenHeads.{post_head_valid, post_head_lengths, post_head_codings, post_head_size, poll_head_valid, poll_head_size, reply_head_valid, reply_head_lengths, reply_head_code, reply_head_size}

value_bytes : (address : List ℕ) → IsTrue (is_word address) → list_all is_value_byte address ≡ true
value_bytes address to = list_all-weaker _ is_value_byte value_from_word address (word_facts address to).word_bytes

pub number_bytes : (n : ℕ) → n < 2 ^ 64 → list_all is_value_byte (decimal n) ≡ true
number_bytes n small =
    list_all-weaker (is_between 47 58) is_value_byte
    (λ b e. value_from_between b (is_between-wider 47 58 31 127 b (omega arith) (omega arith) e)) (decimal n) (decimal_between n small)

-- a body that stands alone behind a head which states its length
whole_body : (fields : List Field) (body : List ℕ) → stated_lengths fields ≡ decimal (length body) ∷ [] → length body ≤ post_limit
    → HasBody fields body body
whole_body fields body lengths short = record {
  stated = ap length_in lengths ∙ number_in_digits-decimal (length body) (omega arith);
  short = short;
  is = sym (take_all (length body) body (omega arith));
}

-- ---- posts

-- the head of a written post, and the body behind it
pub written_post_has : (address body bytes : List ℕ) → IsTrue (is_word address) → length body ≤ post_limit
    → bytes ≡ written_post_request address body → HasRequestHead bytes (post_head address (length body)) body
unfolding HasRequestHead post_head
written_post_has address body bytes to short is =
    let n = length body in
    let word = word_facts address to in
    let digits = length-decimal-le 19 n (omega arith) (omega arith) (omega arith) in (
      (post_head_valid address n (value_bytes address to) (number_bytes n (omega arith)), is ∙ sym (print-post address body)),
      (omega arith, omega (arith, post_head_size address n, word.at_most, digits)),
    )

pub written_post_body : (address body : List ℕ) → length body ≤ post_limit → HasBody (post_head address (length body)).fields body body
written_post_body address body short =
    whole_body (post_head address (length body)).fields body (post_head_lengths address (length body) (omega arith)) short

pub post_accepted : (address body bytes : List ℕ) → IsTrue (is_word address) → length body ≤ post_limit
    → bytes ≡ written_post_request address body → PostRequest body bytes
unfolding post_head
post_accepted address body bytes to short is = record {
  head = post_head address (length body);
  behind = body;
  has_head = written_post_has address body bytes to short is;
  method = refl;
  target = refl;
  not_coded = post_head_codings address (length body);
  has = written_post_body address body short;
}

pub written_is_post : (address : List ℕ) (chunks : List Chunk) (bytes : List ℕ) → WrittenPost address chunks bytes → IsPostOf chunks bytes
written_is_post address chunks bytes w = (
  written_post chunks,
  post_accepted address (written_post chunks) bytes w.to w.short w.is,
  written_is_posted chunks w.some w.few w.are w.short,
)

-- ---- polls

pub written_poll_has : (address : List ℕ) (stems : List Stem) (bytes : List ℕ) → WrittenPoll address stems bytes
    → HasRequestHead bytes (poll_head address stems) []
unfolding HasRequestHead poll_head
written_poll_has address stems bytes w =
    let word = word_facts address w.to in (
      (
        poll_head_valid address stems (value_bytes address w.to) (query_between stems w.are),
        w.is ∙ (sym (print-poll address stems) ∙ sym (append-nil _)),
      ),
      (omega arith, omega (arith, poll_head_size address stems, word.at_most, query_size stems w.are, w.few)),
    )

pub written_is_poll : (address : List ℕ) (stems : List Stem) (bytes : List ℕ) → WrittenPoll address stems bytes → PollRequest stems bytes
unfolding poll_head
written_is_poll address stems bytes w = record {
  head = poll_head address stems;
  behind = [];
  has_head = written_poll_has address stems bytes w;
  method = refl;
  target = refl;
  some = w.some;
  few = w.few;
  are = w.are;
}

-- ---- replies

pub written_reply_has : (code : ℕ) (phrase body bytes : List ℕ) → WrittenReply code phrase body bytes
    → HasReplyHead bytes (reply_head code phrase (length body)) body
unfolding HasReplyHead reply_head
written_reply_has code phrase body bytes w =
    let n = length body in
    let short = w.short in
    let parts = and_parts (nat_le (length phrase) 64) (list_all is_value_byte phrase) w.phrase_is in
    let digits = length-decimal-le 19 n (omega arith) (omega arith) (omega arith) in
    let code_digits = length-decimal-le 3 code (omega arith) (omega (arith, w.below)) (omega (arith, w.below)) in
    let few = leb-true (length phrase) 64 parts.0 in (
      (
        reply_head_valid code phrase n w.from w.below parts.1 (number_bytes n (omega arith)),
        w.is ∙ sym (print-reply code phrase body),
      ),
      (omega arith, omega (arith, reply_head_size code phrase n, digits, code_digits, few)),
    )

pub written_is_reply : (code : ℕ) (phrase body bytes : List ℕ) → WrittenReply code phrase body bytes → IsReply code body bytes
written_is_reply code phrase body bytes w = record {
  head = reply_head code phrase (length body);
  behind = body;
  has_head = written_reply_has code phrase body bytes w;
  code_is = reply_head_code code phrase (length body) w.below;
  has = whole_body (reply_head code phrase (length body)).fields body
      (reply_head_lengths code phrase (length body) (omega (arith, w.short))) w.short;
}
