-- What is set aside again: the same data in the name of another cluster, and other data.
use Rattle.std.proofs.Common.{◌≡◌, Bool, true, false, [], ◌∷◌, refl, ap, sym, inl, inr, subst, true≢false, arith, if◌then◌else◌}
use Rattle.std.specs.Prelude.{codes, Any, IsTrue}
use Rattle.chk_bytes.specs.Stems.{Stem}
use Rattle.chk_seqfile.specs.Headers.{header, marker_of}
use Rattle.chk_seqfile.specs.Entries.{record_entry}
use Rattle.chk_seqfile.proofs.HeaderLemmas.{IsHeader-header, length-marker_of}
use Rattle.chk_site.specs.History.{History, files_after}
use Rattle.chk_chunk.specs.Keys.{Stream, Chunk, written_key, same_stream, same_data}
use Rattle.chk_world.specs.Names.{ArchiveFolder, SegmentFile, file}
use Rattle.chk_world.specs.Books.{Segment, End, Three, chunks_of_stream}
use Rattle.chk_world.specs.Committed.{HasFile}
use Rattle.chk_world.specs.Jobs.{IsSource, Grows, IsSoundSegment, Run, HasStart, chunks_after}
use Rattle.chk_world.proofs.NameTests.{streams_same}
use Rattle.chk_world_examples.specs.Texts.{stream, chunk, stem, segment, end}
use Rattle.chk_world_examples.specs.Archives.{OldAside, BookBut, Written, RefusedFor, IsAllowed, publishing, late}
use Rattle.chk_world_examples.specs.SevenRules.{same_late, other_late, third, third_aside, file_of, set_aside_again}
use Rattle.chk_world_examples.proofs.ExampleMessages.{in_one}
use Rattle.chk_world_examples.proofs.WrongArchives.{owed, first_sound, in_two, not_reached}
use Rattle.chk_world_examples.proofs.Unfolded.{texts}

abbrev second_stem : Stem
second_stem = record { collector = codes "c1"; born = 1; number = 2 }

-- the segment is there at this moment, and sound
abbrev SoundIn : History → Segment → Type 0
SoundIn history g = HasFile (file (files_after history) (SegmentFile ArchiveFolder g.number)) (IsSoundSegment ArchiveFolder g)

-- ---- the same data

abbrev same_late_moment : History
same_late_moment = publishing Three third_aside (set_aside_again same_late)

same_late_sound : IsSoundSegment ArchiveFolder third (file_of (codes "seg.3") same_late)
unfolding texts
same_late_sound = record {
  length_is = refl;
  synced_is = refl;
  chunks = record {
    form = record {
      marker = marker_of (codes "seg.3");
      head = header (marker_of (codes "seg.3"));
      entries = record_entry (written_key same_late.key) same_late.value;
      is = refl;
      header = IsHeader-header (marker_of (codes "seg.3")) (length-marker_of (codes "seg.3"));
      form = record {
        pieces = record_entry (written_key same_late.key) same_late.value ∷ [];
        each = (inr (record { key = written_key same_late.key; value = same_late.value; small = omega arith; is = refl }), tt);
        is = refl;
      };
    };
    all = refl;
  };
}

same_late_here : Grows same_late_moment stream (chunks_after same_late_moment third_aside stream)
unfolding texts
same_late_here = record {
  old = [];
  parts = chunk ∷ [];
  are = refl;
  same = refl;
  new = (
    record {
      whole = chunk;
      source = inl (stem, refl, (0, omega arith, refl));
      of = refl;
      begins = omega arith;
      past = omega arith;
      key = refl;
      value = refl;
    },
    tt,
  );
}

same_late_grows : (s : Stream) (b : Bool) → same_stream s stream ≡ b → Grows same_late_moment s (chunks_after same_late_moment third_aside s)
unfolding texts
same_late_grows s true e =
    subst (λ s. Grows same_late_moment s (chunks_after same_late_moment third_aside s)) (sym (streams_same s stream e)) same_late_here
same_late_grows s false e =
    record { old = []; parts = []; are = ap (λ b. if b then chunk ∷ [] else []) e; same = refl; new = tt }

same_late_written : Written same_late_moment third_aside
unfolding texts
same_late_written = record { next = refl; whole = refl; there = refl; starts = refl }

same_late_owes : BookBut OldAside same_late_moment third_aside
unfolding texts
same_late_owes = record {
  each = λ s. same_late_grows s (same_stream s stream) refl;
  sound = λ g o. elim (in_two segment third g o) [
    | inl e ↦ subst (λ (g : Segment). SoundIn same_late_moment g) e first_sound
    | inr e ↦ subst (λ (g : Segment). SoundIn same_late_moment g) e same_late_sound
  ];
  listed = λ c o. subst (λ (c : Chunk). Any (λ e. e.stream ≡ c.key.stream) (end ∷ [])) (in_one chunk c o)
      (0, end, omega arith, refl, refl);
  ends = λ e o. subst (λ (e : End). Run e.start e.start (chunks_of_stream e.stream (chunk ∷ [])) e.end) (in_one end e o)
      (refl, refl, refl);
  starts = λ e o. subst (λ (e : End). HasStart ArchiveFolder same_late_moment e) (in_one end e o) (_, refl, refl);
  aside_new = λ c o. subst (IsSource (files_after same_late_moment)) (in_one same_late c o)
      (inl (second_stem, refl, (0, omega arith, refl)));
  aside_old = tt;
}

pub same_data_stays : IsAllowed same_late_moment third_aside
unfolding texts
same_data_stays = record {
  written = same_late_written;
  all = record {
    each = same_late_owes.each;
    sound = same_late_owes.sound;
    listed = same_late_owes.listed;
    ends = same_late_owes.ends;
    starts = same_late_owes.starts;
    aside_new = same_late_owes.aside_new;
    aside_old = λ c o. inl (subst (λ (c : Chunk). Any (λ d. IsTrue (same_data c d)) (same_late ∷ [])) (in_one late c o)
        (0, same_late, omega arith, refl, refl));
  };
}

-- ---- other data

abbrev other_late_moment : History
other_late_moment = publishing Three third_aside (set_aside_again other_late)

other_late_sound : IsSoundSegment ArchiveFolder third (file_of (codes "seg.3") other_late)
unfolding texts
other_late_sound = record {
  length_is = refl;
  synced_is = refl;
  chunks = record {
    form = record {
      marker = marker_of (codes "seg.3");
      head = header (marker_of (codes "seg.3"));
      entries = record_entry (written_key other_late.key) other_late.value;
      is = refl;
      header = IsHeader-header (marker_of (codes "seg.3")) (length-marker_of (codes "seg.3"));
      form = record {
        pieces = record_entry (written_key other_late.key) other_late.value ∷ [];
        each = (inr (record { key = written_key other_late.key; value = other_late.value; small = omega arith; is = refl }), tt);
        is = refl;
      };
    };
    all = refl;
  };
}

other_late_here : Grows other_late_moment stream (chunks_after other_late_moment third_aside stream)
unfolding texts
other_late_here = record {
  old = [];
  parts = chunk ∷ [];
  are = refl;
  same = refl;
  new = (
    record {
      whole = chunk;
      source = inl (stem, refl, (0, omega arith, refl));
      of = refl;
      begins = omega arith;
      past = omega arith;
      key = refl;
      value = refl;
    },
    tt,
  );
}

other_late_grows : (s : Stream) (b : Bool) → same_stream s stream ≡ b → Grows other_late_moment s (chunks_after other_late_moment third_aside s)
unfolding texts
other_late_grows s true e =
    subst (λ s. Grows other_late_moment s (chunks_after other_late_moment third_aside s)) (sym (streams_same s stream e)) other_late_here
other_late_grows s false e =
    record { old = []; parts = []; are = ap (λ b. if b then chunk ∷ [] else []) e; same = refl; new = tt }

other_late_written : Written other_late_moment third_aside
unfolding texts
other_late_written = record { next = refl; whole = refl; there = refl; starts = refl }

other_late_owes : BookBut OldAside other_late_moment third_aside
unfolding texts
other_late_owes = record {
  each = λ s. other_late_grows s (same_stream s stream) refl;
  sound = λ g o. elim (in_two segment third g o) [
    | inl e ↦ subst (λ (g : Segment). SoundIn other_late_moment g) e first_sound
    | inr e ↦ subst (λ (g : Segment). SoundIn other_late_moment g) e other_late_sound
  ];
  listed = λ c o. subst (λ (c : Chunk). Any (λ e. e.stream ≡ c.key.stream) (end ∷ [])) (in_one chunk c o)
      (0, end, omega arith, refl, refl);
  ends = λ e o. subst (λ (e : End). Run e.start e.start (chunks_of_stream e.stream (chunk ∷ [])) e.end) (in_one end e o)
      (refl, refl, refl);
  starts = λ e o. subst (λ (e : End). HasStart ArchiveFolder other_late_moment e) (in_one end e o) (_, refl, refl);
  aside_new = λ c o. subst (IsSource (files_after other_late_moment)) (in_one other_late c o)
      (inl (second_stem, refl, (0, omega arith, refl)));
  aside_old = tt;
}

other_chunk : Any (λ (d : Chunk). IsTrue (same_data late d)) (other_late ∷ []) → ⊥
unfolding texts
other_chunk a =
    true≢false (sym (subst (λ (d : Chunk). same_data late d ≡ true) (sym (in_one other_late a.1 (a.0, a.2, a.3))) a.4))

pub other_data_is_lost : RefusedFor OldAside other_late_moment third_aside
unfolding texts
other_data_is_lost = record {
  written = other_late_written;
  others = other_late_owes;
  refused = λ r. elim ((owed other_late_moment third_aside other_late_written r).1.aside_old late (0, omega arith, refl)) [
    | inl a ↦ other_chunk a
    | inr h ↦ not_reached h
  ];
}
