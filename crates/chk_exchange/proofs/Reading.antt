-- A reply of the collector is read as it was made.
use Rattle.std.proofs.Common.{◌≡◌, inr, ℕ, ◌≤◌, ◌<◌, ◌^◌, true, List, length, Some, take, None, sym, ap, subst, ◌∙◌, refl, arith, length-append, decimal}
use Rattle.std.specs.Prelude.{IsTrue, nat_le}
use Rattle.std.specs.List.{list_all}
use Rattle.std.proofs.lemmas.Bool.{and_parts, leb-true}
use Rattle.std.proofs.lemmas.List.{take_all}
use Rattle.std.proofs.lemmas.Fmt.{length-decimal-le}
use Rattle.std.proofs.lemmas.Option.{same_Some}
use Rattle.httparse.specs.Grammar.{is_value_byte, print_response, status_code}
use Rattle.chk_bytes.proofs.DecimalLemmas.{number_in_digits-decimal}
use Rattle.chk_http_grammar.specs.Heads.{HasReplyHead, stated_length, length_in}
use Rattle.chk_http_grammar.specs.Messages.{IsReply, is_phrase, written_reply}
use Rattle.chk_http_grammar.proofs.HeadLemmas.{HasReplyHead-same}
use Rattle.chk_http_grammar.proofs.Printed.{reply_head, print-reply}
use Rattle.chk_http_grammar.proofs.Texts.{is_between, is_between-wider, list_all-weaker, value_from_between, decimal_between}
use Rattle.chk_http_grammar.proofs.WrittenHeads.{reply_head_valid, reply_head_lengths, reply_head_code, reply_head_size}
use Rattle.chk_http.specs.declared.fault.HttpFault.{HttpFault}
use Rattle.chk_http.specs.declared.fault.HttpFault.TheVariants.{BadHead, NoLength, TooLarge, NotYet, BadPath, BadMethod, BadLine}
use Rattle.chk_http.specs.Faults.{fault_code}
use Rattle.chk_http.specs.Written.{is_answer_code, phrase_of}
use Rattle.chk_http.proofs.Pieces.{answer_code}
use Rattle.chk_sink.specs.declared.fault.SinkFault.{SinkFault}
use Rattle.chk_collector.specs.Outcomes.{Outcome, Refused, BadPost, Lines, Fails, code_of, body_of, reply_of, line, sink_fault_text}
use Rattle.chk_exchange.specs.declared.fault.ExchangeFault.{ExchangeFault}
use Rattle.chk_exchange.specs.Faults.{IsTold, IsMade, IsUntold, IsUnread}
use Rattle.chk_http_grammar.proofs.Written.{number_bytes as value_bytes}

module _ (code : ℕ) (phrase body : List ℕ) (from : 100 ≤ code) (below : code < 1000)
    (is : IsTrue (is_phrase phrase))
    (small : length body < 2 ^ 63) where
  abbrev Bytes : List ℕ
  Bytes = written_reply code phrase body

  has_head : HasReplyHead Bytes (reply_head code phrase (length body)) body
  unfolding HasReplyHead reply_head
  has_head =
      let n = length body in
      let parts = and_parts (nat_le (length phrase) 64) (list_all is_value_byte phrase) is in
      let digits = length-decimal-le 20 n (omega arith) (omega arith) (omega (arith, small)) in
      let code_digits =
      length-decimal-le 3 code (omega arith) (omega (arith, below)) (omega (arith, below)) in
      let few = leb-true (length phrase) 64 parts.0 in (
        (
          reply_head_valid code phrase n from below parts.1 (value_bytes n (omega (arith, small))),
          sym (print-reply code phrase body),
        ),
        (omega arith, omega (arith, reply_head_size code phrase n, digits, code_digits, few)),
      )

  -- whatever it is read as, that is its code and its body
  pub written_reads : (k : ℕ) (b : List ℕ) → IsReply k b Bytes → (k ≡ code) × (b ≡ body)
  written_reads k b read =
      let n = length body in
      let same =
      HasReplyHead-same Bytes read.head
      (reply_head code phrase n) read.behind body read.has_head has_head in
      let states : stated_length (reply_head code phrase n).fields ≡ Some (length b) =
      subst (λ h. stated_length h.fields ≡ Some (length b)) same.0 read.has.stated in
      let size : n ≡ length b =
      same_Some n (length b)
      (sym (ap length_in (reply_head_lengths code phrase n (omega (arith, small)))
      ∙ number_in_digits-decimal n small) ∙ states) in (
        sym read.code_is ∙ (ap (λ h. status_code h) same.0 ∙ reply_head_code code phrase n below),
        read.has.is
            ∙ (ap (take (length b)) same.1
            ∙ (ap (λ k. take k body) (sym size) ∙ take_all n body (omega arith))),
      )

-- ---- an outcome

-- its code is one that a collector answers with
answers : (o : Outcome) → IsTrue (is_answer_code (code_of o))
answers (Refused BadHead) = refl
answers (Refused NoLength) = refl
answers (Refused TooLarge) = refl
answers (Refused NotYet) = refl
answers (Refused BadPath) = refl
answers (Refused BadMethod) = refl
answers (Refused BadLine) = refl
answers (BadPost fault) = refl
answers (Lines acks) = refl
answers (Fails fault) = refl

body_fits : (code : ℕ) (phrase body : List ℕ)
    → length body ≤ length (written_reply code phrase body)
body_fits code phrase body =
    let head = print_response (reply_head code phrase (length body)) in
    let size = ap length (print-reply code phrase body) in
    omega (arith, sym size, length-append head body)

pub outcome_reads : (o : Outcome) (reply : List ℕ) → reply ≡ reply_of o → length reply < 2 ^ 63
    → (k : ℕ) (b : List ℕ) → IsReply k b reply → (k ≡ code_of o) × (b ≡ body_of o)
outcome_reads o reply is small k b read =
    let code = answer_code (code_of o) (answers o) in
    let fits = body_fits (code_of o) (phrase_of (code_of o)) (body_of o) in
    let size = ap length is in
    written_reads (code_of o) (phrase_of (code_of o)) (body_of o) code.from code.below code.phrase
    (omega (arith, fits, sym size, small)) k b (subst (IsReply k b) is read)

-- ---- what was read

module _ (o : Outcome) (reply : List ℕ) (is : reply ≡ reply_of o) (small : length reply < 2 ^ 63)
    (k : ℕ) (b : List ℕ)
    (read : IsReply k b reply) where
  same : (k ≡ code_of o) × (b ≡ body_of o)
  same = outcome_reads o reply is small k b read

  pub read_so : IsReply (code_of o) (body_of o) reply
  read_so =
      subst (λ n. IsReply n (body_of o) reply) same.0
      (subst (λ text. IsReply k text reply) same.1 read)

-- a reply of another code tells no fault
pub none_made : (o : Outcome) (reply : List ℕ) → reply ≡ reply_of o → length reply < 2 ^ 63
    → (k : ℕ) (b : List ℕ)
    → IsReply k b reply → (k ≡ 503 → ⊥) → IsMade o None
none_made (Refused fault) reply is small k b read other = refl
none_made (BadPost fault) reply is small k b read other = refl
none_made (Lines acks) reply is small k b read other = refl
none_made (Fails fault) reply is small k b read other =
    absurd (other (same (Fails fault) reply is small k b read).0)

refused_code : (fault : HttpFault) → fault_code fault ≡ 503 → ⊥
refused_code BadHead e = omega (arith, e)
refused_code NoLength e = omega (arith, e)
refused_code TooLarge e = omega (arith, e)
refused_code NotYet e = omega (arith, e)
refused_code BadPath e = omega (arith, e)
refused_code BadMethod e = omega (arith, e)
refused_code BadLine e = omega (arith, e)

-- one of this code tells the fault of its line
pub some_made : (o : Outcome) (reply : List ℕ) → reply ≡ reply_of o → length reply < 2 ^ 63
    → (k : ℕ) (b : List ℕ)
    → IsReply k b reply → k ≡ 503 → (told : ExchangeFault)
    → ((fault : SinkFault) → b ≡ line (sink_fault_text fault) → IsTold fault told)
    → IsMade o (Some told)
some_made (Refused fault) reply is small k b read e told tells =
    absurd (refused_code fault (sym (same (Refused fault) reply is small k b read).0 ∙ e))
some_made (BadPost fault) reply is small k b read e told tells =
    let code = (same (BadPost fault) reply is small k b read).0 in absurd (omega (arith, code, e))
some_made (Lines acks) reply is small k b read e told tells =
    let code = (same (Lines acks) reply is small k b read).0 in absurd (omega (arith, code, e))
some_made (Fails fault) reply is small k b read e told tells =
    (told, refl, tells fault (same (Fails fault) reply is small k b read).1)

-- where the line of its fault isn't read back, the reply isn't
pub untold_made : (o : Outcome) (reply : List ℕ) → reply ≡ reply_of o → length reply < 2 ^ 63
    → (k : ℕ) (b : List ℕ) → IsReply k b reply → k ≡ 503
    → ((fault : SinkFault) → b ≡ line (sink_fault_text fault) → IsUntold fault) → IsUnread reply o
untold_made (Refused fault) reply is small k b read e untold =
    absurd (refused_code fault (sym (same (Refused fault) reply is small k b read).0 ∙ e))
untold_made (BadPost fault) reply is small k b read e untold =
    let code = (same (BadPost fault) reply is small k b read).0 in absurd (omega (arith, code, e))
untold_made (Lines acks) reply is small k b read e untold =
    let code = (same (Lines acks) reply is small k b read).0 in absurd (omega (arith, code, e))
untold_made (Fails fault) reply is small k b read e untold =
    inr (fault, refl, untold fault (same (Fails fault) reply is small k b read).1)
