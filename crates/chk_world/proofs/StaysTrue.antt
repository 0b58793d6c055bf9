-- A true chunk of a stream that has begun, which was sent, stays one, and its bytes go on with a front of the log.
use Rattle.std.proofs.Common.{◌≡◌, ◌⊎◌, inr, ℕ, ◌+◌, ◌-◌, ◌≤◌, ◌<◌, List, [], ◌∷◌, ◌++◌, length, take, drop, Some, ap, sym, ◌∙◌, arith, nat_le, nat_lt, ◌&&◌, append_assoc}
use Rattle.std.specs.Prelude.{IsTrue, Contains}
use Rattle.std.proofs.lemmas.Bool.{and_parts, leb-true, ltb-true}
use Rattle.std.proofs.lemmas.List.{length-take, length-drop, take-append-le, drop-append-le, drop-drop, take-append-drop, drop-take}
use Rattle.std.proofs.Math.Seq.{drop-append_seam}
use Rattle.chk_bytes.specs.Words.{BeginsWith}
use Rattle.chk_site.specs.declared.acts.Role.TheVariants.{Agent}
use Rattle.chk_site.specs.Acts.{Sends, deed}
use Rattle.chk_site.specs.History.{Step, History}
use Rattle.chk_chunk.specs.Keys.{Chunk, chunk_begin, chunk_limit, is_chunk, is_key, has_value}
use Rattle.chk_http_grammar.specs.Messages.{WrittenPost}
use Rattle.chk_world.specs.Names.{is_source}
use Rattle.chk_world.specs.Agents.{MaySendChunk}
use Rattle.chk_world.specs.Checkpoints.{line_of}
use Rattle.chk_world.specs.Streams.{Founding, founding, founded_by, or_else, start_at, start_of, log_of, IsTrueChunk}
use Rattle.chk_world.specs.Rules.{Legal}
use Rattle.chk_world.proofs.LogsGrow.{logs_grow}

-- the step is an agent's and sends the chunk in a post, as it may
pub record SendsChunk (history : History) (step : Step) (c : Chunk) : Type 0 where
  pub agent : step.act.who.role ≡ Agent
  pub m : ℕ
  pub address : List ℕ
  pub bytes : List ℕ
  pub call : deed step.act ≡ Sends m address bytes
  pub chunks : List Chunk
  pub is_post : WrittenPost address chunks bytes
  pub one : Contains chunks c
  pub may : MaySendChunk step.act.who history c

-- a step of the history sent it
abbrev pub WasSent : History → Chunk → Type 0
WasSent [] c = ⊥
WasSent (step ∷ history) c = SendsChunk history step c ⊎ WasSent history c

-- a true chunk of a stream that has begun, which can be spelled and was sent
pub record IsFoundedChunk (history : History) (c : Chunk) : Type 0 where
  pub source : IsTrue (is_source c.key.stream.source)
  pub first : Founding
  pub founded : founding history c.key.stream ≡ Some first
  pub valid : IsTrue (is_chunk c)
  pub is_true : IsTrueChunk history c
  pub sent : WasSent history c

-- a chunk's data has a byte, and doesn't begin before the stream's start
pub record HasRoom (c : Chunk) : Type 0 where
  pub some : 0 < length c.value
  pub low : c.key.start + length c.value ≤ c.key.seq

pub has_room : (c : Chunk) → IsTrue (is_chunk c) → HasRoom c
has_room c valid =
    let n : ℕ = length c.value in
    let parts = and_parts (is_key c.key) (has_value chunk_limit c.key c.value) valid in
    let value = and_parts (nat_lt 0 n) (nat_le n chunk_limit && nat_le (c.key.start + n) c.key.seq) parts.1 in
    record {
      some = ltb-true 0 n value.0;
      low = leb-true (c.key.start + n) c.key.seq (and_parts (nat_le n chunk_limit) (nat_le (c.key.start + n) c.key.seq) value.1).1;
    }

-- all of it lies in the log
pub within_log : (log value : List ℕ) (at : ℕ) → value ≡ take (length value) (drop at log) → 0 < length value
    → at + length value ≤ length log
within_log log value at is some =
    let size : length value ≡ length (take (length value) (drop at log)) = ap length is in
    omega (arith, size, some, length-take (length value) (drop at log), length-drop at log)

pub same_in_longer : (log more value : List ℕ) (at : ℕ) → value ≡ take (length value) (drop at log) → 0 < length value
    → value ≡ take (length value) (drop at (log ++ more))
same_in_longer log more value at is some =
    let room = within_log log value at is some in
    is ∙ (sym (take-append-le (length value) (drop at log) more (omega (arith, room, length-drop at log)))
    ∙ ap (take (length value)) (sym (drop-append-le at log more (omega (arith, room)))))

-- a chunk that was true before the step and has been sent by then
pub founded_after : (stamped : List (List ℕ)) (history : History) (step : Step) → Legal stamped (step ∷ history) → (c : Chunk)
    → IsTrue (is_source c.key.stream.source) → (first : Founding) → founding history c.key.stream ≡ Some first → IsTrue (is_chunk c)
    → IsTrueChunk history c → WasSent (step ∷ history) c → IsFoundedChunk (step ∷ history) c
founded_after stamped history step legal c source first founded valid is_true sent =
    let s = c.key.stream in
    let later = founded_by (line_of step.files s) (step.logs s.name) in
    let still : founding (step ∷ history) s ≡ Some first = ap (λ o. or_else o later) founded in
    let start : start_of (step ∷ history) s ≡ start_of history s = ap start_at still ∙ sym (ap start_at founded) in
    let grows = logs_grow stamped history step legal s source in
    let at : ℕ = chunk_begin c - c.key.start in
    record {
      source = source;
      first = first;
      founded = still;
      valid = valid;
      is_true = record {
        start = is_true.start ∙ sym start;
        data_is = same_in_longer (log_of history s) grows.0 c.value at is_true.data_is (has_room c valid).some
            ∙ ap (λ log. take (length c.value) (drop at log)) (sym grows.1);
      };
      sent = sent;
    }

pub stays_true : (stamped : List (List ℕ)) (history : History) (step : Step) → Legal stamped (step ∷ history) → (c : Chunk)
    → IsFoundedChunk history c → IsFoundedChunk (step ∷ history) c
stays_true stamped history step legal c g =
    founded_after stamped history step legal c g.source g.first g.founded g.valid g.is_true (inr g.sent)

-- what a chunk of the log has past the end of a front goes on with the front
pub goes_on : (log value front : List ℕ) (at : ℕ) → value ≡ take (length value) (drop at log) → at ≤ length front
    → length front ≤ at + length value → BeginsWith log front → BeginsWith log (front ++ drop (length front - at) value)
goes_on log value front at is low high begins =
    let rest = begins.0 in
    let d = length front - at in
    let e = at + length value - length front in
    let behind : drop (at + d) log ≡ rest =
    ap (λ n. drop n log) (let z : at + d ≡ length front = omega (arith, low) in z) ∙ (ap (drop (length front)) begins.1 ∙ drop-append_seam front rest) in
    let part : drop d value ≡ take e rest =
    ap (drop d) (is ∙ ap (λ n. take n (drop at log)) (let z : length value ≡ d + e = omega (arith, low, high) in z))
    ∙ (drop-take d e (drop at log) ∙ ap (take e) (drop-drop d at log ∙ behind)) in (
      drop e rest,
      begins.1 ∙ (ap (λ l. front ++ l) (sym (take-append-drop e rest) ∙ ap (λ l. l ++ drop e rest) (sym part)) ∙ sym (append_assoc front (drop d value) (drop e rest))),
    )
