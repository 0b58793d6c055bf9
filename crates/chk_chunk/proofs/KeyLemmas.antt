-- What a valid key is known to be, part by part.
use Rattle.std.proofs.Common.{ℕ, ◌<◌, ◌≤◌, List, length}
use Rattle.std.specs.Prelude.{IsTrue}
use Rattle.std.proofs.lemmas.Bool.{and_parts, and_from, ltb-true, lt-ltb}
use Rattle.chk_bytes.specs.Numbers.{limit}
use Rattle.chk_bytes.specs.Words.{is_word}
use Rattle.chk_bytes.proofs.WordLemmas.{word_facts}
use Rattle.chk_chunk.specs.Keys.{Key, Stream, is_stream, has_words, is_key, start_limit}

-- a word's length fits in two bytes
pub word_fits : (text : List ℕ) → IsTrue (is_word text) → length text ≤ 4096
word_fits text w = (word_facts text w).at_most

-- three words
pub record StreamFacts (s : Stream) : Type 0 where
  pub source : IsTrue (is_word s.source)
  pub kind : IsTrue (is_word s.kind)
  pub name : IsTrue (is_word s.name)

pub stream_facts : (s : Stream) → IsTrue (is_stream s) → StreamFacts s
stream_facts s h =
    let a = and_parts _ _ h in
    let b = and_parts _ _ a.1 in
    record { source = a.0; kind = b.0; name = b.1 }

pub is_stream-from_facts : (s : Stream) → StreamFacts s → IsTrue (is_stream s)
is_stream-from_facts s f = and_from _ _ f.source (and_from _ _ f.kind f.name)

-- a key that can be spelled
pub record KeyFacts (k : Key) : Type 0 where
  pub stream : IsTrue (is_stream k.stream)
  pub cluster : IsTrue (is_word k.cluster)
  pub low : k.start < start_limit
  pub started : k.start < k.seq
  pub fits : k.seq < limit

pub key_facts : (k : Key) → IsTrue (is_key k) → KeyFacts k
key_facts k h =
    let a = and_parts _ _ h in
    let b = and_parts _ _ a.1 in
    let d = and_parts _ _ b.1 in
    let e = and_parts _ _ d.1 in
    record {
      stream = a.0;
      cluster = b.0;
      low = ltb-true k.start start_limit d.0;
      started = ltb-true k.start k.seq e.0;
      fits = ltb-true k.seq limit e.1;
    }

pub is_key-from_facts : (k : Key) → KeyFacts k → IsTrue (is_key k)
is_key-from_facts k f =
    and_from _ _ f.stream
    (and_from _ _ f.cluster
    (and_from _ _ (lt-ltb k.start start_limit f.low)
    (and_from _ _ (lt-ltb k.start k.seq f.started) (lt-ltb k.seq limit f.fits))))

-- no text is long
pub record TextSizes (k : Key) : Type 0 where
  pub source : length k.stream.source ≤ 4096
  pub kind : length k.stream.kind ≤ 4096
  pub name : length k.stream.name ≤ 4096
  pub cluster : length k.cluster ≤ 4096

pub text_sizes : (k : Key) → IsTrue (has_words k) → TextSizes k
text_sizes k words =
    let a = and_parts (is_stream k.stream) (is_word k.cluster) words in
    let facts = stream_facts k.stream a.0 in
    record {
      source = word_fits k.stream.source facts.source;
      kind = word_fits k.stream.kind facts.kind;
      name = word_fits k.stream.name facts.name;
      cluster = word_fits k.cluster a.1;
    }
