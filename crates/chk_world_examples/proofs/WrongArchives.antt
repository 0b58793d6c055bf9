-- Books of the archive that the job's rule refuses for one part of what a book owes, each beside one that differs in it and is allowed.
use Rattle.std.proofs.Common.{◌≡◌, ℕ, ◌≤◌, ◌<◌, ◌⊎◌, Bool, true, false, [], ◌∷◌, ◌++◌, Some, None, bytes_eq, refl, ap, sym, ◌∙◌, inl, inr, subst, arith, if◌then◌else◌}
use Rattle.std.specs.Prelude.{codes, zero, suc, Contains, Any, slice_index_or}
use Rattle.std.proofs.lemmas.Option.{same_Some, none-some}
use Rattle.chk_seqfile.specs.Headers.{header, marker_of}
use Rattle.chk_seqfile.specs.Entries.{record_entry}
use Rattle.chk_seqfile.proofs.HeaderLemmas.{IsHeader-header, length-marker_of}
use Rattle.chk_site.specs.declared.acts.Call.TheVariants.{Rename}
use Rattle.chk_site.specs.declared.acts.ActAnswer.TheVariants.{Done}
use Rattle.chk_site.specs.Files.{Moved}
use Rattle.chk_site.specs.History.{History, files_after}
use Rattle.chk_world.proofs.Segments.{data_self}
use Rattle.chk_chunk.specs.Keys.{Stream, Chunk, key_1, same_stream}
use Rattle.chk_world.specs.Names.{ArchiveFolder, BookFile, SegmentFile, Temporary, DoneFile, read, spell, file}
use Rattle.chk_world.specs.Streams.{Founding}
use Rattle.chk_world.specs.Books.{Segment, End, Book, Two, Three, read_book, chunks_of_stream}
use Rattle.chk_world.specs.Committed.{OnFile, HasFile}
use Rattle.chk_world.specs.Jobs.{IsSource, Grows, IsSoundSegment, Run, NewBook, HasStart, chunks_after}
use Rattle.chk_world_examples.specs.Texts.{hello, done_sink, book_tmp, book_name, segment, stream, chunk, stem, end}
use Rattle.chk_world.specs.Sight.{job}
use Rattle.chk_world_examples.proofs.ExampleMessages.{in_one, in_none}
use Rattle.chk_world.proofs.NameTests.{streams_same}
use Rattle.chk_world_examples.specs.Refusing.{TheRule, ObeysBut, next_by}
use Rattle.chk_world_examples.proofs.WrongParts.{given_one}
use Rattle.chk_world_examples.proofs.Unfolded.{texts}
use Rattle.chk_world_examples.specs.Archives.{BookBut, Written, Publishes, RefusedFor, IsAllowed, no_others, publishing, late, second, first_book, no_streams, empty_end, unbegun_end, unbegun, other_start, with_aside, second_there, set_aside, ItsStarts, ItsStreams, NewAside, NoPart, OldAside}

-- the moments at which the books are published
abbrev no_stream_at : History
no_stream_at = publishing Two no_streams no_others

abbrev first_at : History
first_at = publishing Two first_book no_others

abbrev other_start_at : History
other_start_at = publishing Two other_start no_others

abbrev unbegun_at : History
unbegun_at = publishing Two unbegun no_others

abbrev new_aside_at : History
new_aside_at = publishing Three with_aside second_there

abbrev old_aside_at : History
old_aside_at = publishing Three with_aside set_aside

abbrev lost_at : History
lost_at = publishing Two first_book set_aside

-- the segment is there at this moment, and sound
abbrev SoundIn : History → Segment → Type 0
SoundIn history g = HasFile (file (files_after history) (SegmentFile ArchiveFolder g.number)) (IsSoundSegment ArchiveFolder g)

published_book : (o : _) (b : Book) (P : Book → Type 0) → HasFile o (λ f. read_book f.bytes ≡ Some b)
    → OnFile o (λ f. (d : Book) × (read_book f.bytes ≡ Some d) × P d) → P b
published_book None b P h p = absurd h
published_book (Some f) b P h p = subst P (sym (same_Some b p.0 (sym h ∙ p.1))) p.2

publishes : (o : _) (b : Book) (P : Book → Type 0) → HasFile o (λ f. read_book f.bytes ≡ Some b) → P b
    → OnFile o (λ f. (d : Book) × (read_book f.bytes ≡ Some d) × P d)
publishes None b P h p = tt
publishes (Some f) b P h p = (b, h, p)

-- what a publication that is allowed shows of its book
pub owed : (history : History) (b : Book) → Written history b → Publishes history → NewBook [] ArchiveFolder history b
unfolding read spell
owed history b w r = published_book (file (files_after history) (Temporary (BookFile ArchiveFolder))) b (NewBook [] ArchiveFolder history) w.next r.1

-- a book of which all parts hold may be published
pub allowed : (history : History) (b : Book) → Written history b → BookBut NoPart history b → Publishes history
unfolding read spell
allowed history b w a = (
  refl,
  publishes (file (files_after history) (Temporary (BookFile ArchiveFolder))) b (NewBook [] ArchiveFolder history) w.next (
    record { sound = a.sound; listed = a.listed; ends = a.ends; starts = a.starts },
    record { each = a.each; aside_new = a.aside_new; aside_old = a.aside_old },
  ),
)

-- all else that a step owes holds of the publication
pub else_obeys : (history : History) (b : Book) → Written history b
    → ObeysBut TheRule history (next_by job Rename (book_tmp ∷ book_name ∷ []) 0 0 (Done [] 0 0) history)
unfolding read spell
else_obeys history b w = record {
  honest = record {
    modelled = record { effect = record { did = Moved book_tmp book_name; may = refl; files_left = λ n. refl; logs_left = λ p. refl }; small = tt };
    agrees = w.there;
  };
  named = refl;
  starts = w.starts;
  own_files = (refl, (refl, w.whole));
  logs = tt;
  requests = tt;
  rule = tt;
}

-- ---- the books

pub first_sound : IsSoundSegment ArchiveFolder segment (record { bytes = header (marker_of (codes "seg.1")) ++ record_entry (key_1 chunk.key) hello; synced = 144 })
unfolding texts
first_sound = record {
  length_is = refl;
  synced_is = refl;
  chunks = record {
    form = record {
      marker = marker_of (codes "seg.1");
      head = header (marker_of (codes "seg.1"));
      entries = record_entry (key_1 chunk.key) hello;
      is = refl;
      header = IsHeader-header (marker_of (codes "seg.1")) (length-marker_of (codes "seg.1"));
      form = record {
        pieces = record_entry (key_1 chunk.key) hello ∷ [];
        each = (inr (record { key = key_1 chunk.key; value = hello; small = omega arith; is = refl }), tt);
        is = refl;
      };
    };
    all = refl;
  };
}

second_sound : IsSoundSegment ArchiveFolder second (record { bytes = header (marker_of (codes "seg.2")) ++ record_entry (key_1 late.key) hello; synced = 144 })
unfolding texts
second_sound = record {
  length_is = refl;
  synced_is = refl;
  chunks = record {
    form = record {
      marker = marker_of (codes "seg.2");
      head = header (marker_of (codes "seg.2"));
      entries = record_entry (key_1 late.key) hello;
      is = refl;
      header = IsHeader-header (marker_of (codes "seg.2")) (length-marker_of (codes "seg.2"));
      form = record {
        pieces = record_entry (key_1 late.key) hello ∷ [];
        each = (inr (record { key = key_1 late.key; value = hello; small = omega arith; is = refl }), tt);
        is = refl;
      };
    };
    all = refl;
  };
}

pub in_two : {X : Type 0} (x y z : X) → Contains (x ∷ y ∷ []) z → (x ≡ z) ⊎ (y ≡ z)
in_two x y z c = go c.0 c.1 c.2
  where
    go : (k : ℕ) → k < 2 → slice_index_or (x ∷ y ∷ []) k z ≡ z → (x ≡ z) ⊎ (y ≡ z)
    go zero h e = inl e
    go (suc zero) h e = inr e
    go (suc (suc k)) h e = absurd (let w : ⊥ = omega arith in w)

-- a book has each stream of its chunks

no_any : Any (λ (e : End). e.stream ≡ chunk.key.stream) [] → ⊥
no_any a = let below = a.2 in omega (arith, below)

without_stream_here : Grows no_stream_at stream (chunks_after no_stream_at no_streams stream)
unfolding texts
without_stream_here = record {
  old = [];
  parts = chunk ∷ [];
  are = refl;
  same = refl;
  new = (record { whole = chunk; source = inl (stem, refl, (0, omega arith, refl)); of = refl; begins = omega arith; past = omega arith; key = refl; value = refl }, tt);
}

without_stream_elsewhere : (s : Stream) → same_stream s stream ≡ false → Grows no_stream_at s (chunks_after no_stream_at no_streams s)
unfolding texts
without_stream_elsewhere s e = record { old = []; parts = []; are = ap (λ b. if b then chunk ∷ [] else []) e; same = refl; new = tt }

without_stream_grows : (s : Stream) (b : Bool) → same_stream s stream ≡ b → Grows no_stream_at s (chunks_after no_stream_at no_streams s)
without_stream_grows s true e = subst (λ s. Grows no_stream_at s (chunks_after no_stream_at no_streams s)) (sym (streams_same s stream e)) without_stream_here
without_stream_grows s false e = without_stream_elsewhere s e

without_stream_written : Written no_stream_at no_streams
unfolding texts
without_stream_written = record { next = refl; whole = refl; there = refl; starts = refl }

pub without_stream : RefusedFor ItsStreams no_stream_at no_streams
unfolding texts
without_stream = record {
  written = without_stream_written;
  others = record {
    each = λ s. without_stream_grows s (same_stream s stream) refl;
    sound = λ g o. subst (λ (g : Segment). SoundIn no_stream_at g) (in_one segment g o) first_sound;
    listed = tt;
    ends = λ e o. absurd (in_none e o);
    starts = λ e o. absurd (in_none e o);
    aside_new = λ c o. absurd (in_none c o);
    aside_old = λ c o. absurd (in_none c o);
  };
  refused = λ r. no_any ((owed no_stream_at no_streams without_stream_written r).0.listed chunk (0, omega arith, refl));
}

with_stream_here : Grows first_at stream (chunks_after first_at first_book stream)
unfolding texts
with_stream_here = record {
  old = [];
  parts = chunk ∷ [];
  are = refl;
  same = refl;
  new = (record { whole = chunk; source = inl (stem, refl, (0, omega arith, refl)); of = refl; begins = omega arith; past = omega arith; key = refl; value = refl }, tt);
}

with_stream_elsewhere : (s : Stream) → same_stream s stream ≡ false → Grows first_at s (chunks_after first_at first_book s)
unfolding texts
with_stream_elsewhere s e = record { old = []; parts = []; are = ap (λ b. if b then chunk ∷ [] else []) e; same = refl; new = tt }

with_stream_grows : (s : Stream) (b : Bool) → same_stream s stream ≡ b → Grows first_at s (chunks_after first_at first_book s)
with_stream_grows s true e = subst (λ s. Grows first_at s (chunks_after first_at first_book s)) (sym (streams_same s stream e)) with_stream_here
with_stream_grows s false e = with_stream_elsewhere s e

with_stream_written : Written first_at first_book
unfolding texts
with_stream_written = record { next = refl; whole = refl; there = refl; starts = refl }

pub with_stream : IsAllowed first_at first_book
unfolding texts
with_stream = record {
  written = with_stream_written;
  all = record {
    each = λ s. with_stream_grows s (same_stream s stream) refl;
    sound = λ g o. subst (λ (g : Segment). SoundIn first_at g) (in_one segment g o) first_sound;
    listed = λ c o. subst (λ (c : Chunk). Any (λ e. e.stream ≡ c.key.stream) (end ∷ [])) (in_one chunk c o) (0, end, omega arith, refl, refl);
    ends = λ e o. subst (λ (e : End). Run e.start e.start (chunks_of_stream e.stream (chunk ∷ [])) e.end) (in_one end e o) (refl, refl, refl);
    starts = λ e o. subst (λ (e : End). HasStart ArchiveFolder first_at e) (in_one end e o) (_, refl, refl);
    aside_new = λ c o. absurd (in_none c o);
    aside_old = λ c o. absurd (in_none c o);
  };
}

-- with its start

another_start_here : Grows other_start_at stream (chunks_after other_start_at other_start stream)
unfolding texts
another_start_here = record {
  old = [];
  parts = chunk ∷ [];
  are = refl;
  same = refl;
  new = (record { whole = chunk; source = inl (stem, refl, (0, omega arith, refl)); of = refl; begins = omega arith; past = omega arith; key = refl; value = refl }, tt);
}

another_start_elsewhere : (s : Stream) → same_stream s stream ≡ false → Grows other_start_at s (chunks_after other_start_at other_start s)
unfolding texts
another_start_elsewhere s e = record { old = []; parts = []; are = ap (λ b. if b then chunk ∷ [] else []) e; same = refl; new = tt }

another_start_grows : (s : Stream) (b : Bool) → same_stream s stream ≡ b → Grows other_start_at s (chunks_after other_start_at other_start s)
another_start_grows s true e = subst (λ s. Grows other_start_at s (chunks_after other_start_at other_start s)) (sym (streams_same s stream e)) another_start_here
another_start_grows s false e = another_start_elsewhere s e

another_start_written : Written other_start_at other_start
unfolding texts
another_start_written = record { next = refl; whole = refl; there = refl; starts = refl }

pub another_start : RefusedFor ItsStarts other_start_at other_start
unfolding texts
another_start = record {
  written = another_start_written;
  others = record {
    each = λ s. another_start_grows s (same_stream s stream) refl;
    sound = λ g o. subst (λ (g : Segment). SoundIn other_start_at g) (in_one segment g o) first_sound;
    listed = λ c o. subst (λ (c : Chunk). Any (λ e. e.stream ≡ c.key.stream) (end ∷ empty_end ∷ [])) (in_one chunk c o) (0, end, omega arith, refl, refl);
    ends = λ e o. elim (in_two end empty_end e o) [ inl i ↦ subst (λ (e : End). Run e.start e.start (chunks_of_stream e.stream (chunk ∷ [])) e.end) i (refl, refl, refl) | inr i ↦ subst (λ (e : End). Run e.start e.start (chunks_of_stream e.stream (chunk ∷ [])) e.end) i refl ];
    starts = tt;
    aside_new = λ c o. absurd (in_none c o);
    aside_old = λ c o. absurd (in_none c o);
  };
  refused = λ r.
      let h = (owed other_start_at other_start another_start_written r).0.starts empty_end (1, omega arith, refl) in
      let z : ◌≡◌ {A = ℕ} 5 0 = h.2 ∙ sym (ap (λ (f : Founding). f.line.start) (same_Some _ h.0 h.1)) in
      omega arith;
}

-- a book has no stream that hasn't begun
not_begun_here : Grows unbegun_at stream (chunks_after unbegun_at unbegun stream)
unfolding texts
not_begun_here = record {
  old = [];
  parts = chunk ∷ [];
  are = refl;
  same = refl;
  new = (record { whole = chunk; source = inl (stem, refl, (0, omega arith, refl)); of = refl; begins = omega arith; past = omega arith; key = refl; value = refl }, tt);
}

not_begun_elsewhere : (s : Stream) → same_stream s stream ≡ false → Grows unbegun_at s (chunks_after unbegun_at unbegun s)
unfolding texts
not_begun_elsewhere s e = record { old = []; parts = []; are = ap (λ b. if b then chunk ∷ [] else []) e; same = refl; new = tt }

not_begun_grows : (s : Stream) (b : Bool) → same_stream s stream ≡ b → Grows unbegun_at s (chunks_after unbegun_at unbegun s)
not_begun_grows s true e = subst (λ s. Grows unbegun_at s (chunks_after unbegun_at unbegun s)) (sym (streams_same s stream e)) not_begun_here
not_begun_grows s false e = not_begun_elsewhere s e

not_begun_written : Written unbegun_at unbegun
unfolding texts
not_begun_written = record { next = refl; whole = refl; there = refl; starts = refl }

pub not_begun : RefusedFor ItsStarts unbegun_at unbegun
unfolding texts
not_begun = record {
  written = not_begun_written;
  others = record {
    each = λ s. not_begun_grows s (same_stream s stream) refl;
    sound = λ g o. subst (λ (g : Segment). SoundIn unbegun_at g) (in_one segment g o) first_sound;
    listed = λ c o. subst (λ (c : Chunk). Any (λ e. e.stream ≡ c.key.stream) (end ∷ unbegun_end ∷ [])) (in_one chunk c o) (0, end, omega arith, refl, refl);
    ends = λ e o. elim (in_two end unbegun_end e o) [ inl i ↦ subst (λ (e : End). Run e.start e.start (chunks_of_stream e.stream (chunk ∷ [])) e.end) i (refl, refl, refl) | inr i ↦ subst (λ (e : End). Run e.start e.start (chunks_of_stream e.stream (chunk ∷ [])) e.end) i refl ];
    starts = tt;
    aside_new = λ c o. absurd (in_none c o);
    aside_old = λ c o. absurd (in_none c o);
  };
  refused = λ r.
      let h = (owed unbegun_at unbegun not_begun_written r).0.starts unbegun_end (1, omega arith, refl) in
      none-some h.0 h.1;
}

-- what it sets aside is of a done sink, or was set aside before

late_no_source : IsSource (files_after new_aside_at) late → ⊥
unfolding texts
late_no_source (inl s) =
    let e : chunk ≡ late = given_one (bytes_eq (spell (DoneFile s.0)) done_sink) late s.2 in
    let z : ◌≡◌ {A = ℕ} 6 9 = ap (λ (c : Chunk). c.key.seq) e in
    omega arith
late_no_source (inr a) = in_none late a

false_aside_here : Grows new_aside_at stream (chunks_after new_aside_at with_aside stream)
unfolding texts
false_aside_here = record {
  old = [];
  parts = chunk ∷ [];
  are = refl;
  same = refl;
  new = (record { whole = chunk; source = inl (stem, refl, (0, omega arith, refl)); of = refl; begins = omega arith; past = omega arith; key = refl; value = refl }, tt);
}

false_aside_elsewhere : (s : Stream) → same_stream s stream ≡ false → Grows new_aside_at s (chunks_after new_aside_at with_aside s)
unfolding texts
false_aside_elsewhere s e = record { old = []; parts = []; are = ap (λ b. if b then chunk ∷ [] else []) e; same = refl; new = tt }

false_aside_grows : (s : Stream) (b : Bool) → same_stream s stream ≡ b → Grows new_aside_at s (chunks_after new_aside_at with_aside s)
false_aside_grows s true e = subst (λ s. Grows new_aside_at s (chunks_after new_aside_at with_aside s)) (sym (streams_same s stream e)) false_aside_here
false_aside_grows s false e = false_aside_elsewhere s e

false_aside_written : Written new_aside_at with_aside
unfolding texts
false_aside_written = record { next = refl; whole = refl; there = refl; starts = refl }

pub false_aside : RefusedFor NewAside new_aside_at with_aside
unfolding texts
false_aside = record {
  written = false_aside_written;
  others = record {
    each = λ s. false_aside_grows s (same_stream s stream) refl;
    sound = λ g o. elim (in_two segment second g o) [ inl e ↦ subst (λ (g : Segment). SoundIn new_aside_at g) e first_sound | inr e ↦ subst (λ (g : Segment). SoundIn new_aside_at g) e second_sound ];
    listed = λ c o. subst (λ (c : Chunk). Any (λ e. e.stream ≡ c.key.stream) (end ∷ [])) (in_one chunk c o) (0, end, omega arith, refl, refl);
    ends = λ e o. subst (λ (e : End). Run e.start e.start (chunks_of_stream e.stream (chunk ∷ [])) e.end) (in_one end e o) (refl, refl, refl);
    starts = λ e o. subst (λ (e : End). HasStart ArchiveFolder new_aside_at e) (in_one end e o) (_, refl, refl);
    aside_new = tt;
    aside_old = λ c o. absurd (in_none c o);
  };
  refused = λ r. late_no_source ((owed new_aside_at with_aside false_aside_written r).1.aside_new late (0, omega arith, refl));
}

true_aside_here : Grows old_aside_at stream (chunks_after old_aside_at with_aside stream)
unfolding texts
true_aside_here = record {
  old = [];
  parts = chunk ∷ [];
  are = refl;
  same = refl;
  new = (record { whole = chunk; source = inl (stem, refl, (0, omega arith, refl)); of = refl; begins = omega arith; past = omega arith; key = refl; value = refl }, tt);
}

true_aside_elsewhere : (s : Stream) → same_stream s stream ≡ false → Grows old_aside_at s (chunks_after old_aside_at with_aside s)
unfolding texts
true_aside_elsewhere s e = record { old = []; parts = []; are = ap (λ b. if b then chunk ∷ [] else []) e; same = refl; new = tt }

true_aside_grows : (s : Stream) (b : Bool) → same_stream s stream ≡ b → Grows old_aside_at s (chunks_after old_aside_at with_aside s)
true_aside_grows s true e = subst (λ s. Grows old_aside_at s (chunks_after old_aside_at with_aside s)) (sym (streams_same s stream e)) true_aside_here
true_aside_grows s false e = true_aside_elsewhere s e

true_aside_written : Written old_aside_at with_aside
unfolding texts
true_aside_written = record { next = refl; whole = refl; there = refl; starts = refl }

pub true_aside : IsAllowed old_aside_at with_aside
unfolding texts
true_aside = record {
  written = true_aside_written;
  all = record {
    each = λ s. true_aside_grows s (same_stream s stream) refl;
    sound = λ g o. elim (in_two segment second g o) [ inl e ↦ subst (λ (g : Segment). SoundIn old_aside_at g) e first_sound | inr e ↦ subst (λ (g : Segment). SoundIn old_aside_at g) e second_sound ];
    listed = λ c o. subst (λ (c : Chunk). Any (λ e. e.stream ≡ c.key.stream) (end ∷ [])) (in_one chunk c o) (0, end, omega arith, refl, refl);
    ends = λ e o. subst (λ (e : End). Run e.start e.start (chunks_of_stream e.stream (chunk ∷ [])) e.end) (in_one end e o) (refl, refl, refl);
    starts = λ e o. subst (λ (e : End). HasStart ArchiveFolder old_aside_at e) (in_one end e o) (_, refl, refl);
    aside_new = λ c o. inr o;
    aside_old = λ c o. inl (o.0, c, o.1, o.2, data_self c);
  };
}

-- and no chunk that was set aside is lost, but where the archive has reached its end

pub not_reached : 9 ≤ 6 → ⊥
not_reached h = omega arith

lost_aside_here : Grows lost_at stream (chunks_after lost_at first_book stream)
unfolding texts
lost_aside_here = record {
  old = [];
  parts = chunk ∷ [];
  are = refl;
  same = refl;
  new = (record { whole = chunk; source = inl (stem, refl, (0, omega arith, refl)); of = refl; begins = omega arith; past = omega arith; key = refl; value = refl }, tt);
}

lost_aside_elsewhere : (s : Stream) → same_stream s stream ≡ false → Grows lost_at s (chunks_after lost_at first_book s)
unfolding texts
lost_aside_elsewhere s e = record { old = []; parts = []; are = ap (λ b. if b then chunk ∷ [] else []) e; same = refl; new = tt }

lost_aside_grows : (s : Stream) (b : Bool) → same_stream s stream ≡ b → Grows lost_at s (chunks_after lost_at first_book s)
lost_aside_grows s true e = subst (λ s. Grows lost_at s (chunks_after lost_at first_book s)) (sym (streams_same s stream e)) lost_aside_here
lost_aside_grows s false e = lost_aside_elsewhere s e

lost_aside_written : Written lost_at first_book
unfolding texts
lost_aside_written = record { next = refl; whole = refl; there = refl; starts = refl }

pub lost_aside : RefusedFor OldAside lost_at first_book
unfolding texts
lost_aside = record {
  written = lost_aside_written;
  others = record {
    each = λ s. lost_aside_grows s (same_stream s stream) refl;
    sound = λ g o. subst (λ (g : Segment). SoundIn lost_at g) (in_one segment g o) first_sound;
    listed = λ c o. subst (λ (c : Chunk). Any (λ e. e.stream ≡ c.key.stream) (end ∷ [])) (in_one chunk c o) (0, end, omega arith, refl, refl);
    ends = λ e o. subst (λ (e : End). Run e.start e.start (chunks_of_stream e.stream (chunk ∷ [])) e.end) (in_one end e o) (refl, refl, refl);
    starts = λ e o. subst (λ (e : End). HasStart ArchiveFolder lost_at e) (in_one end e o) (_, refl, refl);
    aside_new = λ c o. absurd (in_none c o);
    aside_old = tt;
  };
  refused = λ r. elim ((owed lost_at first_book lost_aside_written r).1.aside_old late (0, omega arith, refl)) [ inl o ↦ in_none o.1 (o.0, o.2, o.3) | inr h ↦ not_reached h ];
}
