-- The longer history is legal: a log is read from a start above 0, and its checkpoint moves on.
use Rattle.std.proofs.Common.{[], ◌∷◌, refl, arith, subst, inl, inr, ◌≡◌, List, true, false}
use Rattle.std.specs.Prelude.{codes, Any, IsTrue, slice_index_or}
use Rattle.chk_bytes.specs.Numbers.{be64}
use Rattle.chk_site.specs.declared.acts.Call.TheVariants.{Start, Create, Append, Sync, Rename, LogRead, LogNewest, Send, Take, Answer, Got}
use Rattle.chk_site.specs.History.{files_after, since_start, Step}
use Rattle.chk_chunk.specs.Keys.{no_cluster, key_2}
use Rattle.chk_world.specs.Checkpoints.{Line, same_log, line_of}
use Rattle.chk_world.specs.Agents.{Acknowledged, LineMay, LineIsTrue, stream_of, MaySendChunk, SendsTrueChunks, AgentRule}
use Rattle.chk_world.specs.Rules.{Legal}
use Rattle.chk_world_examples.specs.Texts.{a1, c1, path, check, check_tmp, sink, head, stem, mark, mark_tmp, poll, hello}
use Rattle.chk_world_examples.specs.Moments.{g1, some_step}
use Rattle.chk_world_examples.specs.Agents.{newest}
use Rattle.chk_world_examples.specs.LongRound.{line_5, line_11, text_of, first_chunk, request_1, entry_1, body_1, reply_1, k1, k2, k3, k4, k5, k6, k7, k8, k9, k10, k11, k12, k13, k14, k15, k16, k17, k18, k19, k20, k21, k22, k23, k24, k25, k26, k27}
use Rattle.chk_world_examples.proofs.ExampleMessages.{is_poll, polled_so, one_body, in_one, in_none, one_not_zero, two_not_zero}
use Rattle.chk_world_examples.proofs.ExampleStart.{glegal1}
use Rattle.chk_world_examples.proofs.LongMessages.{is_post_1, posted_1, replied_1}
use Rattle.chk_world_examples.proofs.Went.{went}
use Rattle.chk_world_examples.proofs.Unfolded.{texts}
use Rattle.chk_site.specs.Acts.{Renames}
use Rattle.chk_world.specs.Collectors.{IsPosted, view}

-- ---- the agent starts, asks for the newest suffix, and publishes its first checkpoint

pub klegal1 : Legal [] k1
unfolding texts
klegal1 = went a1 Start [] 0 0 [] 0 0 g1 glegal1 tt tt refl tt tt tt tt tt

pub klegal2 : Legal [] k2
unfolding texts
klegal2 = went a1 LogNewest (path ∷ []) 0 0 [] 0 0 k1 klegal1 tt refl refl refl tt tt tt tt

pub klegal3 : Legal [] k3
unfolding texts
klegal3 = went a1 Create (check_tmp ∷ []) 0 0 [] 0 0 k2 klegal2 tt refl refl refl refl tt tt tt

pub klegal4 : Legal [] k4
unfolding texts
klegal4 =
    went a1 Append (check_tmp ∷ text_of line_5 ∷ []) 0 0 [] 0 0 k3 klegal3
    (omega arith) refl refl refl refl tt tt tt

pub klegal5 : Legal [] k5
unfolding texts
klegal5 = went a1 Sync (check_tmp ∷ []) 0 0 [] 0 0 k4 klegal4 tt refl refl refl refl tt tt tt

rule_6 : AgentRule a1 k5 (newest k6) (Renames check_tmp check)
unfolding texts
rule_6 = (
  refl,
  (
    line_5 ∷ [],
    refl,
    record {
      none_lost = λ l c. absurd (in_none l c);
      each = λ l c. subst (λ (l : Line). LineMay a1 k5 (stream_of (codes "h1") l) (line_of (files_after k5) (stream_of (codes "h1") l)) l)
          (in_one line_5 l c) (record { first = refl; offset = refl; after = refl });
      true_at = λ t l c. subst (λ (l : Line). LineIsTrue k6 (stream_of (codes "h1") l) l) (in_one line_5 l c)
          (record { place = record { first = refl; on = omega arith; within = omega arith }; cut = inl refl });
    },
  ),
)

pub klegal6 : Legal [] k6
unfolding texts
klegal6 =
    went a1 Rename (check_tmp ∷ check ∷ []) 0 0 [] 0 0 k5 klegal5
    tt refl refl refl (refl, (refl, refl)) tt tt rule_6

-- ---- it reads the log, and posts a chunk

pub klegal7 : Legal [] k7
unfolding texts
klegal7 =
    went a1 LogRead (path ∷ codes "-" ∷ []) 0 131072 (hello ∷ []) 0 0 k6 klegal6
    tt (omega arith, refl) refl refl tt tt tt (0, line_5, omega arith, refl, (refl, (refl, refl, omega arith)))

may_send_1 : MaySendChunk a1 k7 first_chunk
unfolding texts
may_send_1 = record { source = refl; known = refl; is_true = record { start = refl; data_is = refl }; cut = refl }

sends_1 : SendsTrueChunks a1 k7 (codes "self") request_1
unfolding texts
sends_1 = record {
  chunks = first_chunk ∷ [];
  is_post = is_post_1;
  each = λ c o. subst (MaySendChunk a1 k7) (in_one first_chunk c o) may_send_1;
  cluster = no_cluster;
  here = λ c o. subst (λ c. c.key.cluster ≡ no_cluster) (in_one first_chunk c o) refl;
  before = (tt, (tt, (tt, (tt, (tt, (tt, tt))))));
}

pub klegal8 : Legal [] k8
unfolding texts
klegal8 =
    went a1 Send (codes "self" ∷ request_1 ∷ []) 1 0 [] 1 0 k7 klegal7
    tt (((λ e. one_not_zero e), refl), refl) refl refl tt tt tt (inl sends_1)

-- ---- the collector writes it to its first sink, and answers

pub klegal9 : Legal [] k9
unfolding texts
klegal9 =
    went c1 Take (codes "self" ∷ []) 0 0 (request_1 ∷ []) 1 1 k8 klegal8
    tt ((refl, (λ e. one_not_zero e), refl, ([], refl)), (refl, request_1, refl, refl)) refl refl tt tt tt tt

pub klegal10 : Legal [] k10
unfolding texts
klegal10 =
    went c1 Create (sink ∷ []) 0 0 [] 0 0 k9 klegal9
    tt refl refl refl refl tt tt (refl, refl)

pub klegal11 : Legal [] k11
unfolding texts
klegal11 =
    went c1 Append (sink ∷ head ∷ []) 0 0 [] 0 0 k10 klegal10
    (omega arith) refl refl refl refl tt tt (refl, refl)

was_posted_1 : IsPosted (view c1 k11).handled first_chunk
unfolding texts
was_posted_1 = record {
  message = record {
    taking = 1;
    bytes = request_1;
    answered = false;
    newest = true;
    synced = false;
    appends = record { stem = stem; piece = head; end = 96 } ∷ [];
  };
  taken = (0, omega arith, refl);
  chunks = first_chunk ∷ [];
  open_yet = refl;
  post = posted_1;
  one = (0, omega arith, refl);
}

pub klegal12 : Legal [] k12
unfolding texts
klegal12 =
    went c1 Append (sink ∷ entry_1 ∷ []) 0 0 [] 0 0 k11 klegal11
    (omega arith) refl refl refl refl tt tt (refl, (first_chunk, key_2 first_chunk.key, was_posted_1, inr (refl, refl), refl))

pub klegal13 : Legal [] k13
unfolding texts
klegal13 =
    went c1 Answer (reply_1 ∷ []) 1 0 [] 0 0 k12 klegal12
    tt tt refl refl tt tt tt (refl, λ b r. (record { stem = stem; number = 158 } ∷ [], one_body 200 200 b body_1 reply_1 r replied_1, inl (record { newest = refl; open_yet = refl; chunks = first_chunk ∷ []; post = posted_1; lines = inr (inl (record { stem = refl; end = refl; entry = entry_1; is = (key_2 first_chunk.key, inr (refl, refl), refl); piece = inl refl }, tt)) })))

pub klegal14 : Legal [] k14
unfolding texts
klegal14 =
    went a1 Got [] 1 0 (reply_1 ∷ []) 0 0 k13 klegal13
    tt (inl (refl, refl)) refl refl tt tt tt tt

-- ---- it syncs the sink and publishes its mark

pub klegal15 : Legal [] k15
unfolding texts
klegal15 = went c1 Sync (sink ∷ []) 0 0 [] 0 0 k14 klegal14 tt refl refl refl refl tt tt tt

pub klegal16 : Legal [] k16
unfolding texts
klegal16 = went c1 Create (mark_tmp ∷ []) 0 0 [] 0 0 k15 klegal15 tt refl refl refl refl tt tt tt

pub klegal17 : Legal [] k17
unfolding texts
klegal17 =
    went c1 Append (mark_tmp ∷ be64 158 ∷ []) 0 0 [] 0 0 k16 klegal16
    (omega arith) refl refl refl refl tt tt tt

pub klegal18 : Legal [] k18
unfolding texts
klegal18 = went c1 Sync (mark_tmp ∷ []) 0 0 [] 0 0 k17 klegal17 tt refl refl refl refl tt tt tt

pub klegal19 : Legal [] k19
unfolding texts
klegal19 =
    went c1 Rename (mark_tmp ∷ mark ∷ []) 0 0 [] 0 0 k18 klegal18
    tt refl refl refl (refl, (refl, refl)) tt tt (refl, ((refl, refl, omega arith), omega arith, ((refl, refl), (refl, tt))))

-- ---- the agent polls, and moves its checkpoint on

pub klegal20 : Legal [] k20
unfolding texts
klegal20 =
    went a1 Send (codes "self" ∷ poll ∷ []) 2 0 [] 2 0 k19 klegal19
    tt (((λ e. two_not_zero e), refl), refl) refl refl tt tt tt (inr (stem ∷ [], is_poll))

pub klegal21 : Legal [] k21
unfolding texts
klegal21 =
    went c1 Take (codes "self" ∷ []) 0 0 (poll ∷ []) 2 2 k20 klegal20
    tt ((refl, (λ e. two_not_zero e), refl, ([], refl)), (refl, poll, refl, refl)) refl refl tt tt tt tt

pub klegal22 : Legal [] k22
unfolding texts
klegal22 =
    went c1 Answer (reply_1 ∷ []) 2 0 [] 0 0 k21 klegal21
    tt tt refl refl tt tt tt (refl, λ b r. (record { stem = stem; number = 158 } ∷ [], one_body 200 200 b body_1 reply_1 r replied_1, inr (record { stems = stem ∷ []; poll = polled_so; lines = (refl, record { at_most = inl (omega arith); just = λ q. refl }, tt) })))

pub klegal23 : Legal [] k23
unfolding texts
klegal23 =
    went a1 Got [] 2 0 (reply_1 ∷ []) 0 0 k22 klegal22
    tt (inl (refl, refl)) refl refl tt tt tt tt

pub klegal24 : Legal [] k24
unfolding texts
klegal24 = went a1 Create (check_tmp ∷ []) 0 0 [] 0 0 k23 klegal23 tt refl refl refl refl tt tt tt

pub klegal25 : Legal [] k25
unfolding texts
klegal25 =
    went a1 Append (check_tmp ∷ text_of line_11 ∷ []) 0 0 [] 0 0 k24 klegal24
    (omega arith) refl refl refl refl tt tt tt

pub klegal26 : Legal [] k26
unfolding texts
klegal26 = went a1 Sync (check_tmp ∷ []) 0 0 [] 0 0 k25 klegal25 tt refl refl refl refl tt tt tt

abbrev mine : List Step
mine = since_start a1 k26

acked : Acknowledged mine first_chunk
unfolding texts
acked = record {
  post = 1;
  address = codes "self";
  sent_bytes = request_1;
  chunks = first_chunk ∷ [];
  posted = record { step = slice_index_or mine 6 some_step; one = (6, omega arith, refl); call = refl };
  is_post = is_post_1;
  reply = reply_1;
  acks = record { stem = stem; number = 158 } ∷ [];
  replied = record { step = slice_index_or mine 5 some_step; one = (5, omega arith, refl); call = refl; number = 0; of = 0; done = refl };
  is_good = (refl, replied_1);
  ack = record { stem = stem; number = 158 };
  line = inl (refl, refl, refl);
  poll = 2;
  poll_address = codes "self";
  poll_bytes = poll;
  stems = stem ∷ [];
  polled = record { step = slice_index_or mine 4 some_step; one = (4, omega arith, refl); call = refl };
  is_poll = is_poll;
  poll_reply = reply_1;
  lengths = record { stem = stem; number = 158 } ∷ [];
  poll_replied = record { step = slice_index_or mine 3 some_step; one = (3, omega arith, refl); call = refl; number = 0; of = 0; done = refl };
  is_good_poll = (refl, replied_1);
  asked = (refl, tt);
  committed = (0, record { stem = stem; number = 158 }, omega arith, refl, (refl, omega arith));
}

rule_27 : AgentRule a1 k26 (newest k27) (Renames check_tmp check)
unfolding texts
rule_27 = (
  refl,
  (
    line_11 ∷ [],
    refl,
    record {
      none_lost = λ l c. subst (λ (l : Line). Any (λ (m : Line). IsTrue (same_log l m)) (line_11 ∷ [])) (in_one line_5 l c)
          (0, line_11, omega arith, refl, refl);
      each = λ l c. subst (λ (l : Line). LineMay a1 k26 (stream_of (codes "h1") l) (line_of (files_after k26) (stream_of (codes "h1") l)) l)
          (in_one line_11 l c) (record { class = refl; start = refl; offset = omega arith; after = refl; acknowledged = λ o low high. (first_chunk, (refl, low, high), acked) });
      true_at = λ t l c. subst (λ (l : Line). LineIsTrue k27 (stream_of (codes "h1") l) l) (in_one line_11 l c)
          (record { place = record { first = refl; on = omega arith; within = omega arith }; cut = inr refl });
    },
  ),
)

pub klegal27 : Legal [] k27
unfolding texts
klegal27 =
    went a1 Rename (check_tmp ∷ check ∷ []) 0 0 [] 0 0 k26 klegal26
    tt refl refl refl (refl, (refl, refl)) tt tt rule_27
