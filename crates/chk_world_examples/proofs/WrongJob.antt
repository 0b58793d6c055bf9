-- Steps that the job's and all processes' rules refuse, each beside one that differs in the one fact and is allowed.
use Rattle.std.proofs.Common.{◌≡◌, ℕ, List, [], ◌∷◌, ◌++◌, length, refl, ap, sym, ◌∙◌, subst, true≢false, arith}
use Rattle.std.specs.Prelude.{codes, Contains}
use Rattle.std.proofs.lemmas.Option.{same_Some}
use Rattle.chk_site.specs.declared.acts.Role.TheVariants.{Agent, Collector}
use Rattle.chk_site.specs.Acts.{GrowsLog, Creates, Appends, Renames, Removes, AsksClock, Sends, Says}
use Rattle.chk_site.specs.History.{files_after}
use Rattle.chk_chunk.specs.Keys.{Chunk}
use Rattle.chk_http_grammar.proofs.Accepted.{never_both}
use Rattle.chk_world.specs.Books.{Book, One as book_1, book_bytes, values}
use Rattle.chk_world.specs.ArchiveRuns.{report}
use Rattle.chk_world.specs.Jobs.{Run, all_segments, chunks_after, JobRule}
use Rattle.chk_world.specs.Rules.{StartsAfterStop, Framed, OnlyWritersGrowLogs, OnlyAgentsPost}
use Rattle.chk_world_examples.specs.Texts.{a1, c1, path, hello, request, poll, stem, mark, sink, entry, check, check_tmp, done_sink, seg, book_tmp, book_name, book_1st, book_text, segment, stream, chunk}
use Rattle.chk_world_examples.specs.Moments.{g4, g9, g24, g29, g30, g33, g34, g38, g39, p23}
use Rattle.chk_world_examples.proofs.ExampleMessages.{posted, polled_so}
use Rattle.chk_world_examples.proofs.ExampleJob.{glegal39}
use Rattle.chk_world_examples.proofs.ExampleStop.{removed_too_early}
use Rattle.chk_world_examples.proofs.Unfolded.{texts}
use Rattle.chk_world_examples.specs.Jobs.{next_book, long_book, empty_book}
use Rattle.chk_world_examples.specs.Processes.{stopped_removal}

-- a book names synced segments: here the segment isn't synced
pub segment_not_synced : JobRule [] (next_book book_text g33) (Renames book_tmp book_name) → ⊥
unfolding texts
segment_not_synced r =
    let p = r.1 in
    let e : book_1st ≡ p.0 = same_Some book_1st p.0 p.1 in
    let s = p.2.0.sound segment (subst (λ (b : Book). Contains (all_segments b) segment) e (0, omega arith, refl)) in
    let z : ◌≡◌ {A = ℕ} 0 144 = s.synced_is in
    omega arith

pub past_its_end : JobRule [] (next_book (book_bytes book_1 long_book) g34) (Renames book_tmp book_name) → ⊥
unfolding texts
past_its_end r =
    let p = r.1 in
    let e : long_book ≡ p.0 = same_Some long_book p.0 p.1 in
    let run = p.2.0.ends (record { stream = stream; start = 0; end = 7 })
    (subst (λ (b : Book). Contains b.ends (record { stream = stream; start = 0; end = 7 })) e (0, omega arith, refl)) in
    let z : Run 0 0 (chunks_after (next_book (book_bytes book_1 long_book) g34) long_book stream) 7 =
    subst (λ (b : Book). Run 0 0 (chunks_after (next_book (book_bytes book_1 long_book) g34) b stream) 7) (sym e) run in
    let n : ◌≡◌ {A = ℕ} 7 6 = z.2 in
    omega arith

front_of_none : (old parts : List Chunk) → [] ≡ old ++ parts → old ≡ []
front_of_none [] parts e = refl
front_of_none (c ∷ old) parts e = absurd (cc)

pub archive_lost : JobRule [] (next_book (book_bytes book_1 empty_book) g39) (Renames book_tmp book_name) → ⊥
unfolding texts
archive_lost r =
    let p = r.1 in
    let e : p.0 ≡ empty_book = sym (same_Some empty_book p.0 p.1) in
    let g = p.2.1.each stream in
    let none : [] ≡ g.old ++ g.parts =
    subst (λ (b : Book). chunks_after (next_book (book_bytes book_1 empty_book) g39) b stream ≡ g.old ++ g.parts) e g.are in
    let z : values [] ≡ hello = ap values (sym (front_of_none g.old g.parts none)) ∙ g.same in
    let n : ◌≡◌ {A = ℕ} 0 6 = ap length z in
    omega arith

-- no segment is changed that a book names
pub named_segment_changed : JobRule [] g38 (Appends seg entry) → ⊥
unfolding texts
named_segment_changed r = true≢false r.0

-- a done sink is removed only where its chunks are archived or set aside
pub not_archived : JobRule [] g29 (Removes done_sink) → ⊥
unfolding texts
not_archived r = removed_too_early r.1

archived : JobRule [] g38 (Removes done_sink)
unfolding texts
archived = glegal39.1.rule

-- a report is of a run: here the job has listed nothing
pub no_run : JobRule [] g30 (Says (report 0 0 0 0)) → ⊥
unfolding texts
no_run r = r.1.1.ran

pub no_report : JobRule [] g30 (Says (codes "done\n"))
unfolding texts
no_report = (refl, (refl, tt))

-- and whole lines are printed
pub no_newline : JobRule [] g30 (Says (codes "done")) → ⊥
unfolding texts
no_newline r = true≢false (sym r.1.0)

-- each process has its own files
pub others_file : Framed a1 (files_after g9) (Creates sink) → ⊥
unfolding texts
others_file f = true≢false (sym f)

-- what is published is synced
pub published_unsynced : Framed a1 (files_after g4) (Renames check_tmp check) → ⊥
unfolding texts
published_unsynced f = let z : ◌≡◌ {A = ℕ} 0 65 = f.1.1 in omega arith

-- what is published isn't appended to
pub published_changed : Framed a1 (files_after g24) (Appends check hello) → ⊥
unfolding texts
published_changed f = true≢false (sym f)

-- a done sink is removed by the job alone
pub removed_by_agent : Framed a1 (files_after g38) (Removes done_sink) → ⊥
unfolding texts
removed_by_agent f = true≢false (sym f)

-- after a stop a process acts next by its start
pub goes_on : StartsAfterStop c1 p23 AsksClock → ⊥
unfolding texts
goes_on s = true≢false s

-- only writers change logs, and only agents send posts
pub log_changed : OnlyWritersGrowLogs Agent (GrowsLog path hello) → ⊥
log_changed o = true≢false (sym o)

pub requested : OnlyAgentsPost Collector (Sends 1 (codes "self") request) → ⊥
requested o = o (chunk ∷ [], posted)

-- a poll is anyone's
pub collector_polls : OnlyAgentsPost Collector (Sends 1 (codes "self") poll)
collector_polls o = never_both o.1.0 (stem ∷ []) poll o.1.1 polled_so

pub spares_collector : StartsAfterStop c1 (stopped_removal done_sink) AsksClock
unfolding texts
spares_collector = refl

pub stops_collector : StartsAfterStop c1 (stopped_removal mark) AsksClock → ⊥
unfolding texts
stops_collector s = true≢false s
