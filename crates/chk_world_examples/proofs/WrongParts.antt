-- Parts of an archive that the job's rule refuses for one of the things a part owes, each beside one that differs in it and is allowed.
use Rattle.std.proofs.Common.{◌≡◌, ℕ, ◌-◌, ◌≤◌, ◌<◌, Bool, true, false, [], drop, bytes_eq, refl, ap, sym, ◌∙◌, inl, inr, subst, true≢false, arith}
use Rattle.std.specs.Prelude.{codes, Contains, IsTrue}
use Rattle.std.proofs.lemmas.Slice.Eq.{bytes_eq-Decides}
use Rattle.chk_bytes.specs.Stems.{Stem, is_stem}
use Rattle.chk_site.specs.Files.{Files}
use Rattle.chk_chunk.specs.Keys.{Stream, Key, Chunk, is_of, chunk_begin, chunk_end}
use Rattle.chk_world.specs.Names.{DoneFile, read, spell, is_done_sink}
use Rattle.chk_world.specs.Jobs.{IsSource, IsPartAt}
use Rattle.chk_world.proofs.NameLemmas.{read-spell}
use Rattle.chk_world_examples.specs.Texts.{hello, done_sink, sink, stream, chunk, stem}
use Rattle.chk_world_examples.proofs.ExampleMessages.{in_one, in_none}
use Rattle.chk_world_examples.proofs.Unfolded.{texts}
use Rattle.chk_world_examples.specs.Parts.{sink_with, given, late, PartBut, RefusedFor, part_with, at_done, other_stream, other_key, ItsBegin, ItsEnd, ItsKey, ItsSource, ItsStream, ItsValue, NoThing}

pub given_one : (b : Bool) (c : Chunk) → Contains (given b chunk) c → chunk ≡ c
unfolding texts
given_one true c o = in_one chunk c o
given_one false c o = absurd (in_none c o)

given_late : (b : Bool) (c : Chunk) → Contains (given b late) c → late ≡ c
unfolding texts
given_late true c o = in_one late c o
given_late false c o = absurd (in_none c o)

-- no other chunk is a source
pub source_is : (c : Chunk) → IsSource (sink_with done_sink chunk) c → chunk ≡ c
unfolding texts
source_is c (inl s) = given_one (bytes_eq (spell (DoneFile s.0)) done_sink) c s.2
source_is c (inr a) = absurd (in_none c a)

late_is : (c : Chunk) → IsSource (sink_with done_sink late) c → late ≡ c
unfolding texts
late_is c (inl s) = given_late (bytes_eq (spell (DoneFile s.0)) done_sink) c s.2
late_is c (inr a) = absurd (in_none c a)

pub chunk_is_source : IsSource (sink_with done_sink chunk) chunk
unfolding texts
chunk_is_source = inl (stem, refl, (0, omega arith, refl))

late_is_source : IsSource (sink_with done_sink late) late
unfolding texts
late_is_source = inl (stem, refl, (0, omega arith, refl))

-- a sink under writing is no done sink
pub never_done : (b : Bool) (x : Stem) (c : Chunk) → IsTrue (is_stem x) → bytes_eq (spell (DoneFile x)) sink ≡ b → Contains (given b chunk) c → ⊥
unfolding texts
never_done true x c h e o =
    true≢false (ap is_done_sink (sym (read-spell (DoneFile x) h) ∙ ap read ((bytes_eq-Decides (spell (DoneFile x)) sink).0 e)))
never_done false x c h e o = in_none c o

no_source : (c : Chunk) → IsSource (sink_with sink chunk) c → ⊥
unfolding texts
no_source c (inl s) = never_done (bytes_eq (spell (DoneFile s.0)) sink) s.0 c s.1 refl s.2
no_source c (inr a) = in_none c a

-- where all things hold it is a part
pub allowed : (files : Files) (s : Stream) (reached : ℕ) (whole part : Chunk) → PartBut NoThing files s reached whole part → IsPartAt files s reached part
allowed files s reached whole part p =
    record { whole = whole; source = p.source; of = p.of; begins = p.begins; past = p.past; key = p.key; value = p.value }

-- a part is the data of its chunk

pub false_part : RefusedFor ItsValue at_done stream 0 chunk (part_with (codes "jello\n"))
unfolding texts
false_part = record {
  others = record { source = chunk_is_source; of = refl; begins = omega arith; past = omega arith; key = refl; value = tt };
  refused = λ p. true≢false (ap (λ t. bytes_eq t (codes "jello\n")) (subst (λ (c : Chunk). codes "jello\n" ≡ drop (0 - chunk_begin c) c.value) (sym (source_is p.whole p.source)) p.value));
}

pub true_part : PartBut NoThing at_done stream 0 chunk (part_with hello)
unfolding texts
true_part = record { source = chunk_is_source; of = refl; begins = omega arith; past = omega arith; key = refl; value = refl }

-- of that it is what lies past the end that was reached

pub whole_again : RefusedFor ItsValue at_done stream 3 chunk (part_with hello)
unfolding texts
whole_again = record {
  others = record { source = chunk_is_source; of = refl; begins = omega arith; past = omega arith; key = refl; value = tt };
  refused = λ p. true≢false (ap (λ t. bytes_eq t hello) (subst (λ (c : Chunk). hello ≡ drop (3 - chunk_begin c) c.value) (sym (source_is p.whole p.source)) p.value));
}

pub rest_of_chunk : PartBut NoThing at_done stream 3 chunk (part_with (codes "lo\n"))
unfolding texts
rest_of_chunk = record { source = chunk_is_source; of = refl; begins = omega arith; past = omega arith; key = refl; value = refl }

-- some of the chunk lies past it

pub no_part : RefusedFor ItsEnd at_done stream 6 chunk (part_with [])
unfolding texts
no_part = record {
  others = record { source = chunk_is_source; of = refl; begins = omega arith; past = tt; key = refl; value = refl };
  refused = λ p. let z : 6 < 6 = subst (λ (c : Chunk). 6 < chunk_end c) (sym (source_is p.whole p.source)) p.past in omega arith;
}

pub last_byte : PartBut NoThing at_done stream 5 chunk (part_with (codes "\n"))
unfolding texts
last_byte = record { source = chunk_is_source; of = refl; begins = omega arith; past = omega arith; key = refl; value = refl }

-- and no byte is left out between

pub past_a_gap : RefusedFor ItsBegin (sink_with done_sink late) stream 0 late late
unfolding texts
past_a_gap = record {
  others = record { source = late_is_source; of = refl; begins = tt; past = omega arith; key = refl; value = refl };
  refused = λ p. let z : 3 ≤ 0 = subst (λ (c : Chunk). chunk_begin c ≤ 0) (sym (late_is p.whole p.source)) p.begins in omega arith;
}

pub no_gap : PartBut NoThing (sink_with done_sink late) stream 3 late late
unfolding texts
no_gap = record { source = late_is_source; of = refl; begins = omega arith; past = omega arith; key = refl; value = refl }

pub of_another_stream : RefusedFor ItsStream at_done other_stream 0 chunk (part_with hello)
unfolding texts
of_another_stream = record {
  others = record { source = chunk_is_source; of = tt; begins = omega arith; past = omega arith; key = refl; value = refl };
  refused = λ p. true≢false (sym (subst (λ (c : Chunk). is_of other_stream c ≡ true) (sym (source_is p.whole p.source)) p.of));
}

pub with_another_key : RefusedFor ItsKey at_done stream 0 chunk other_key
unfolding texts
with_another_key = record {
  others = record { source = chunk_is_source; of = refl; begins = omega arith; past = omega arith; key = tt; value = refl };
  refused = λ p. true≢false (ap (λ (k : Key). bytes_eq k.cluster (codes "east")) (subst (λ (c : Chunk). other_key.key ≡ c.key) (sym (source_is p.whole p.source)) p.key));
}

-- its chunk stands in a done sink, and not in one under writing

pub not_done : RefusedFor ItsSource (sink_with sink chunk) stream 0 chunk (part_with hello)
unfolding texts
not_done = record {
  others = record { source = tt; of = refl; begins = omega arith; past = omega arith; key = refl; value = refl };
  refused = λ p. no_source p.whole p.source;
}
