-- It holds a round of the log, in which what was read is acknowledged, kept and archived.
use Rattle.std.proofs.Common.{◌≡◌, inl, inr, ℕ, ◌<◌, ◌≤◌, Bool, true, ◌||◌, [], ◌∷◌, ◌++◌, take, ap, sym, subst, ◌∙◌, refl, arith, append-nil, bytes_eq}
use Rattle.std.specs.Prelude.{codes, Contains, slice_index_or}
use Rattle.std.specs.List.{list_all}
use Rattle.std.proofs.lemmas.Bool.{or_cases}
use Rattle.chk_site.specs.Acts.{Deed, Sends, deed}
use Rattle.chk_site.specs.History.{Step, History, Ever, files_after, since_start}
use Rattle.chk_seqfile.specs.Headers.{marker_of}
use Rattle.chk_seqfile.proofs.HeaderLemmas.{IsHeader-header, length-marker_of}
use Rattle.chk_chunk.specs.Keys.{Covers, chunk_end, key_1}
use Rattle.chk_http_grammar.specs.Messages.{WrittenPoll, IsPostOf}
use Rattle.chk_http_grammar.proofs.Written.{written_is_post}
use Rattle.chk_http_grammar.proofs.Fronts.{front_of_poll_is_no_post}
use Rattle.chk_world.specs.Names.{SinkFile, DoneFile, file}
use Rattle.chk_world.specs.Streams.{whole_end}
use Rattle.chk_world.specs.Committed.{committed_length, chunks_below, archived_end}
use Rattle.chk_world.specs.Agents.{Acknowledged}
use Rattle.chk_world.specs.Laws.{wrote, agent_of, StandsWithin, SavedAt}
use Rattle.chk_world.specs.Rounds.{SendsNonePast, HoldsRound}
use Rattle.chk_world_examples.specs.Examples.{one_log, AcknowledgesTheLog, EndsARound}
use Rattle.chk_world.proofs.Ends.{bytes_same}
use Rattle.chk_world.proofs.Segments.{all_in}
use Rattle.chk_world_examples.specs.Texts.{head, entry, chunk, stem, request, poll, listed_names}
use Rattle.chk_world_examples.specs.Moments.{g7, g26, g27, l30, g39, g40, some_step}
use Rattle.chk_world_examples.proofs.ExampleMessages.{posts_same, is_poll, in_one}
use Rattle.chk_world_examples.proofs.ExampleMoves.{glegal26, acked}
use Rattle.chk_world_examples.proofs.ExampleRun.{archived, has_reached, glegal40}
use Rattle.chk_world_examples.proofs.Unfolded.{texts}

covers : (o : ℕ) → o < 6 → Covers one_log o chunk
covers o below = (refl, omega arith, below)

-- ---- when it is acknowledged

chunks_26 : chunks_below (committed_length (files_after g26) stem) (file (files_after g26) (SinkFile stem)) ≡ chunk ∷ []
unfolding texts
chunks_26 = refl

stands : StandsWithin (wrote stem g26) (committed_length (files_after g26) stem) chunk
unfolding texts
stands = record {
  within = omega arith;
  form = record {
    marker = marker_of (codes "c1.1.1");
    head = head;
    entries = entry;
    is = refl;
    header = IsHeader-header (marker_of (codes "c1.1.1")) (length-marker_of (codes "c1.1.1"));
    form = record { pieces = entry ∷ []; each = (inr (record { key = key_1 chunk.key; value = chunk.value; small = omega arith; is = refl }), tt); is = refl };
  };
  one = (0, omega arith, refl);
}

pub acknowledging : (history : History) × AcknowledgesTheLog history
unfolding texts
acknowledging = (
  g26,
  record {
    legal = glegal26;
    c = chunk;
    covers = covers;
    acknowledged = acked;
    stands = stands;
    saved = λ o below. inl (
      chunk,
      covers o below,
      inl (stem, refl, inl (subst (λ cs. Contains cs chunk) (sym chunks_26) (0, omega arith, refl))),
    );
  },
)

-- ---- what its agent sends

-- it sends nothing but these two messages
abbrev sends_these : Deed → Bool
sends_these (Sends m address bytes) = bytes_eq bytes request || bytes_eq bytes poll
sends_these call = true

-- one of them is the post of the chunk, the other a poll
none_past : (step : Step) → sends_these (deed step.act) ≡ true → SendsNonePast one_log 6 step
none_past step these who m address bytes call chunks post c one of =
    let sent : (bytes_eq bytes request || bytes_eq bytes poll) ≡ true = ap sends_these (sym call) ∙ these in
    let is : IsPostOf chunks bytes = written_is_post address chunks bytes post in
    elim (or_cases (bytes_eq bytes request) (bytes_eq bytes poll) sent) [
      | inl e ↦
          let same : chunks ≡ chunk ∷ [] = posts_same chunks (subst (IsPostOf chunks) (bytes_same bytes request e) is) in
          let this : chunk ≡ c = in_one chunk c (subst (λ cs. Contains cs c) same one) in
          subst (λ d. chunk_end d ≤ 6) this (omega arith)
      | inr e ↦
          let polls : IsPostOf chunks poll = subst (IsPostOf chunks) (bytes_same bytes poll e) is in
          absurd (front_of_poll_is_no_post (codes "self") (stem ∷ []) polls.0 poll [] (subst (WrittenPoll (codes "self") (stem ∷ [])) (sym (append-nil poll)) is_poll) polls.1)
    ]

-- ---- the round

-- the steps after the log was read
abbrev since_read : History
since_read = take 10 g40 ++ (take 4 l30 ++ take 20 g27)

sends_only_these : list_all (λ step. sends_these (deed step.act)) since_read ≡ true
unfolding texts
sends_only_these = refl

read_to : whole_end g7 one_log ≡ 6
unfolding texts
read_to = refl

archived_40 : archived g40 ≡ chunk ∷ []
unfolding texts
archived_40 = refl

holds_round : HoldsRound g40 one_log
unfolding texts
holds_round = record {
  read = g7;
  till_checkpoint = take 20 g27;
  till_listing = take 4 l30;
  till_end = take 10 g40;
  is = refl;
  checkpointed = refl;
  no_more = λ step one.
      subst (λ e. SendsNonePast one_log e step) (sym read_to)
      (none_past step (all_in (λ step. sends_these (deed step.act)) since_read step sends_only_these one));
  names = listed_names;
  run = record { last = refl; closed = refl; reached = has_reached g40 archived_40 };
}

done_30 : chunks_below (committed_length (files_after l30) stem) (file (files_after l30) (DoneFile stem)) ≡ chunk ∷ []
unfolding texts
done_30 = refl

listed_saved : (o : ℕ) → o < 6 → SavedAt l30 one_log o
unfolding texts
listed_saved o below = inl (
  chunk,
  covers o below,
  inl (stem, refl, inr (subst (λ cs. Contains cs chunk) (sym done_30) (0, omega arith, refl))),
)

end_40 : archived_end g40 one_log ≡ 6
unfolding texts
end_40 = refl

-- it was acknowledged before its checkpoint moved on
then_acknowledged : Ever (λ front. Acknowledged (since_start (agent_of one_log) front) chunk) g40
unfolding texts
then_acknowledged = inr (inr (inr (inr (inr (inr (inr (inr (inr (inr (inr (inr (inr (inr (inr (inl acked)))))))))))))))

pub whole_round : (history : History) × (step : Step) × EndsARound history step
unfolding texts holds_round
whole_round = (
  g39,
  slice_index_or g40 0 some_step,
  record {
    legal = glegal40;
    says = refl;
    round = holds_round;
    log = refl;
    acknowledged = λ o below. (chunk, covers o below, then_acknowledged);
    listed = listed_saved;
    saved = λ o below. inr (omega (arith, below, end_40));
  },
)
