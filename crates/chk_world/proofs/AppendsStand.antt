-- Each append that a collector did since it took a message stands in its sink.
use Rattle.std.proofs.Common.{◌≡◌, ◌⊎◌, inl, inr, ℕ, ◌≤◌, ◌<◌, Bool, true, false, List, [], ◌∷◌, ◌++◌, length, take, length-append, map, Option, Some, None, ap, sym, subst, ◌∙◌, refl, arith, if◌then◌else◌}
use Rattle.std.specs.Prelude.{IsTrue, Contains}
use Rattle.std.proofs.lemmas.Bool.{cases_lt}
use Rattle.std.proofs.lemmas.List.{take-append-le, take_all}
use Rattle.chk_bytes.specs.Numbers.{limit}
use Rattle.chk_bytes.specs.Stems.{Stem, is_stem}
use Rattle.chk_site.specs.declared.acts.Who.{Who}
use Rattle.chk_site.specs.declared.acts.ActAnswer.{ActAnswer}
use Rattle.chk_site.specs.declared.acts.ActAnswer.TheVariants.{Done}
use Rattle.chk_site.specs.Files.{File}
use Rattle.chk_site.specs.Effect.{IsSmallFile, StaysSmall}
use Rattle.chk_site.specs.Acts.{Deed, Appends, Syncs, Takes, TakesMore, Answers, deed}
use Rattle.chk_site.specs.History.{Step, History, files_after, is_by}
use Rattle.chk_seqfile.specs.Entries.{IsSequenceFile, sync_entry, record_entry}
use Rattle.chk_seqfile.proofs.EntryLemmas.{length-record_entry}
use Rattle.chk_chunk.specs.Keys.{Chunk, is_chunk, chunk_limit}
use Rattle.chk_http_grammar.specs.Messages.{Ack}
use Rattle.chk_world.specs.Names.{Name, SinkFile, read, spell, file}
use Rattle.chk_world.specs.Books.{chunks_within}
use Rattle.chk_world.specs.Committed.{HasFile}
use Rattle.chk_world.specs.Collectors.{Appended, Handling, Tells, marker, size_in, appended_at, no_more_newest, with_bytes, with_answer, with_sync, with_appends, handled_after, view}
use Rattle.chk_world.specs.Rules.{Legal}
use Rattle.chk_world.specs.Laws.{StandsWithin, collector, wrote, written_by, piece_to, Wrote}
use Rattle.chk_world.proofs.Ends.{bytes_same}
use Rattle.chk_world.proofs.NameTests.{same_name, name_self, named_test}
use Rattle.chk_world.proofs.OwnSteps.{known_stem}
use Rattle.chk_world.proofs.Law.{holds_always}
use Rattle.chk_world.proofs.Forms.{piece_grows}
use Rattle.chk_world.proofs.AppendsKept.{known_sink, told_stands}
use Rattle.chk_world.proofs.Commits.{WritesNext, writes_next, appended_there, is_append}
use Rattle.chk_world.proofs.TakenChunks.{AllOf, all_map, all_same, handled_is}

-- a chunk that a line tells of this append stands in the sink, where the append ended
pub record AppendStands (history : History) (w : Appended) : Type 0 where
  pub stem : IsTrue (is_stem w.stem)
  pub small : w.end < limit
  pub stands : (c : Chunk) → IsTrue (is_chunk c) → (a : Ack) → Tells c a w → StandsWithin (wrote w.stem history) w.end c

abbrev pub AllStand : History → List Appended → Type 0
AllStand history [] = Unit {0}
AllStand history (w ∷ ws) = AppendStands history w × AllStand history ws

-- ---- it goes on standing

pub stands_on : (written more : List ℕ) (n : ℕ) (c : Chunk) → StandsWithin written n c → StandsWithin (written ++ more) n c
stands_on written more n c s =
    let same : take n written ≡ take n (written ++ more) = sym (take-append-le n written more s.within) in
    record {
      within = omega (arith, s.within, length-append written more);
      form = subst IsSequenceFile same s.form;
      one = subst (λ l. Contains (chunks_within chunk_limit l) c) same s.one;
    }

append_stays : (history : History) (step : Step) (w : Appended) → AppendStands history w → AppendStands (step ∷ history) w
append_stays history step w s = record {
  stem = s.stem;
  small = s.small;
  stands = λ c valid a tells. stands_on (wrote w.stem history) (written_by w.stem (deed step.act) step.act.answer) w.end c (s.stands c valid a tells);
}

all_stay : (history : History) (step : Step) (ws : List Appended) → AllStand history ws → AllStand (step ∷ history) ws
all_stay history step [] all = tt
all_stay history step (w ∷ ws) all = (append_stays history step w all.0, all_stay history step ws all.1)

all_append : (history : History) (ws more : List Appended) → AllStand history ws → AllStand history more → AllStand history (ws ++ more)
all_append history [] more all others = others
all_append history (w ∷ ws) more all others = (all.0, all_append history ws more all.1 others)

-- ---- a new append

-- a record has some bytes
told_some : (c : Chunk) (a : Ack) (w : Appended) → Tells c a w → 0 < length w.piece
told_some c a w t = go t.piece
  where
    entry : 0 < length t.entry
    entry = omega (arith, ap length t.is.2, length-record_entry t.is.0 c.value)

    go : (w.piece ≡ t.entry) ⊎ (w.piece ≡ sync_entry (marker w.stem) ++ t.entry) → 0 < length w.piece
    go (inl e) = omega (arith, entry, ap length e)
    go (inr e) = omega (arith, entry, ap length e, length-append (sync_entry (marker w.stem)) t.entry)

small_size : (o : Option File) → IsSmallFile o → size_in o < limit
small_size None h = omega arith
small_size (Some f) h = h

pub size_is : (o : Option File) (n : ℕ) → HasFile o (λ f. length f.bytes ≡ n) → size_in o ≡ n
size_is None n h = absurd h
size_is (Some f) n h = h

stands_whole : (written piece : List ℕ) (n : ℕ) (c : Chunk) → n ≡ length (written ++ piece) → IsSequenceFile (written ++ piece)
    → Contains (chunks_within chunk_limit (written ++ piece)) c → StandsWithin (written ++ piece) n c
stands_whole written piece n c size form one =
    let all : written ++ piece ≡ take n (written ++ piece) = sym (take_all n (written ++ piece) (omega (arith, size))) in
    record {
      within = omega (arith, size);
      form = subst IsSequenceFile all form;
      one = subst (λ l. Contains (chunks_within chunk_limit l) c) all one;
    }

module _ (stamped : List (List ℕ)) (history : History) (step : Step) (legal : Legal stamped (step ∷ history)) (word piece : List ℕ) (words : List (List ℕ))
    (number of : ℕ) (call_is : deed step.act ≡ Appends word piece) (answer_is : step.act.answer ≡ Done words number of) where
  module _ (x : Stem) (name_is : read word ≡ SinkFile x) where
    abbrev appended : Appended
    appended = record { stem = x; piece = piece; end = size_in (step.files word) }

    known : IsTrue (is_stem x)
    known = known_sink word x name_is

    wrote_piece : written_by x (deed step.act) step.act.answer ≡ piece
    wrote_piece =
        ap (λ call. written_by x call step.act.answer) call_is ∙ (ap (written_by x (Appends word piece)) answer_is
        ∙ (ap (λ n. piece_to x n piece) name_is ∙ ap (λ b. if b then piece else []) (name_self (SinkFile x))))

    same_file : step.files word ≡ file step.files (SinkFile x)
    same_file =
        ap step.files (sym (bytes_same (spell (SinkFile x)) word
        (named_test (SinkFile x) (known_stem x known).stem word ∙ (ap (same_name (SinkFile x)) name_is ∙ name_self (SinkFile x)))))

    end_is : Wrote x step → size_in (step.files word) ≡ length (wrote x (step ∷ history))
    end_is some =
        ap size_in same_file ∙ size_is (file step.files (SinkFile x)) (length (wrote x (step ∷ history))) (appended_there stamped history step legal x known some)

    small : size_in (step.files word) < limit
    small = small_size (step.files word) (subst (λ call. StaysSmall call step.files step.logs) call_is legal.1.honest.modelled.small)

    pub less : Wrote x step → length (wrote x (step ∷ history)) < limit
    less some = subst (λ n. n < limit) (end_is some) small

    stands : (c : Chunk) → IsTrue (is_chunk c) → (a : Ack) → Tells c a appended → StandsWithin (wrote x (step ∷ history)) (size_in (step.files word)) c
    stands c valid a tells =
        let written = wrote x history in
        let some : Wrote x step = subst (λ p. 0 < length p) (sym wrote_piece) (told_some c a appended tells) in
        let next : WritesNext x history piece = subst (WritesNext x history) wrote_piece (writes_next stamped history step legal x known some) in
        let inv = holds_always x (known_stem x known) stamped history legal.0 in
        let handled = (view (collector x) history).handled in
        let end : size_in (step.files word) ≡ length (written ++ piece) = end_is some ∙ ap (λ p. length (written ++ p)) wrote_piece in
        let key = tells.is.0 in
        let told : (piece ≡ record_entry key c.value) ⊎ (piece ≡ sync_entry (marker x) ++ record_entry key c.value) =
        subst (λ e. (piece ≡ e) ⊎ (piece ≡ sync_entry (marker x) ++ e)) tells.is.2 tells.piece in
        subst (λ p. StandsWithin (written ++ p) (size_in (step.files word)) c) (sym wrote_piece)
        (stands_whole written piece (size_in (step.files word)) c end (piece_grows handled next.cur x written piece next.is inv.form next.next).form
        (told_stands handled next.cur x written piece key c next.is inv.form next.next valid tells.is.1 told))

    appended_stands : AppendStands (step ∷ history) appended
    appended_stands = record {
      stem = known;
      small = small;
      stands = stands;
    }

  new_stands : (n : Name) → read word ≡ n → AllStand (step ∷ history) (appended_at n piece (size_in (step.files word)))
  new_stands (SinkFile x) e = (appended_stands x e, tt)
  new_stands n e = tt

  pub new_appends : AllStand (step ∷ history) (appended_at (read word) piece (size_in (step.files word)))
  new_appends = new_stands (read word) refl

-- ---- the sizes of sinks

-- what was written to a sink is shorter than 2^63 bytes
pub wrote_small : (stamped : List (List ℕ)) (history : History) → Legal stamped history → (x : Stem) → length (wrote x history) < limit
wrote_small stamped [] legal x = omega arith
wrote_small stamped (step ∷ history) legal x =
    go (cases_lt 0 (length (written_by x (deed step.act) step.act.answer))) (wrote_small stamped history legal.0 x)
  where
    go : (0 < length (written_by x (deed step.act) step.act.answer)) ⊎ (length (written_by x (deed step.act) step.act.answer) ≤ 0)
        → length (wrote x history) < limit → length (wrote x (step ∷ history)) < limit
    go (inl some) before =
        let a = is_append x (deed step.act) step.act.answer some in
        less stamped history step legal a.word a.piece a.words a.number a.of a.call_is a.answer_is x a.name_is some
    go (inr none) before = omega (arith, none, before, length-append (wrote x history) (written_by x (deed step.act) step.act.answer))

-- ---- all appends that a collector did

abbrev pub Stand : History → Handling → Type 0
Stand history h = AllStand history h.appends

pub appends_stand : (stamped : List (List ℕ)) (history : History) → Legal stamped history → (who : Who) → AllOf (Stand history) (view who history).handled
appends_stand stamped [] legal who = tt
appends_stand stamped (step ∷ history) legal who =
    subst (AllOf (Stand (step ∷ history))) (sym (handled_is who (is_by who step) (deed step.act) step.act.answer (files_after history) step.files (view who history)))
    (go (is_by who step) (all_same (Stand history) (Stand (step ∷ history)) (λ h all. all_stay history step h.appends all) (view who history).handled
    (appends_stand stamped history legal.0 who)))
  where
    mapped : (g : Handling → Handling) → ((h : Handling) → (g h).appends ≡ h.appends) → AllOf (Stand (step ∷ history)) (view who history).handled
        → AllOf (Stand (step ∷ history)) (map g (view who history).handled)
    mapped g same all =
        all_map (Stand (step ∷ history)) (Stand (step ∷ history)) g (λ h stand. subst (AllStand (step ∷ history)) (sym (same h)) stand) (view who history).handled all

    own : (call : Deed) (answer : ActAnswer) → deed step.act ≡ call → step.act.answer ≡ answer → AllOf (Stand (step ∷ history)) (view who history).handled
        → AllOf (Stand (step ∷ history)) (handled_after call answer step.files (view who history).handled)
    own (Takes door wait) (Done (bytes ∷ words) number of) c a all = (tt, mapped no_more_newest (λ h. refl) all)
    own (TakesMore t) (Done (bytes ∷ words) number of) c a all = mapped (with_bytes t bytes) (λ h. refl) all
    own (Answers t bytes) answer c a all = mapped (with_answer t) (λ h. refl) all
    own (Syncs w) answer c a all = mapped with_sync (λ h. refl) all
    own (Appends w piece) (Done words number of) c a all =
        all_map (Stand (step ∷ history)) (Stand (step ∷ history)) (with_appends (appended_at (read w) piece (size_in (step.files w))))
        (λ h stand. all_append (step ∷ history) h.appends (appended_at (read w) piece (size_in (step.files w))) stand
        (new_appends stamped history step legal w piece words number of c a)) (view who history).handled all
    own call answer c a all = all

    go : (b : Bool) → AllOf (Stand (step ∷ history)) (view who history).handled
        → AllOf (Stand (step ∷ history)) (if b then handled_after (deed step.act) step.act.answer step.files (view who history).handled else (view who history).handled)
    go true all = own (deed step.act) step.act.answer refl refl all
    go false all = all
