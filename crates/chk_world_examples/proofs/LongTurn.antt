-- It is legal: the log is rotated, its first generation is deleted behind the checkpoint, and it is read on.
use Rattle.std.proofs.Common.{[], ◌∷◌, refl, arith, subst, inl, inr, ◌≡◌, ℕ, List, Bool, true, false, ◌||◌, None, ap, ◌∙◌, bytes_eq}
use Rattle.std.specs.Prelude.{codes, Any, IsTrue, Contains, IsFalse}
use Rattle.chk_bytes.specs.Numbers.{be64}
use Rattle.chk_site.specs.declared.acts.Call.TheVariants.{Create, Append, Sync, Rename, Remove, LogRead, LogAppend, Send, Take, Answer, Got}
use Rattle.chk_site.specs.Files.{LogTurned, LogDropped, Files}
use Rattle.chk_site.specs.History.{files_after}
use Rattle.chk_chunk.specs.Keys.{no_cluster, key_2}
use Rattle.chk_world.specs.Checkpoints.{Line, same_log, line_of, lines_in, checkpoint_lines}
use Rattle.chk_world.specs.Agents.{LineMay, LineIsTrue, stream_of, MaySendChunk, SendsTrueChunks, AgentRule}
use Rattle.chk_world.specs.Rules.{Legal, IsRotatable, IsPassed}
use Rattle.chk_world_examples.specs.Texts.{a1, c1, log, path, check, check_tmp, stem}
use Rattle.chk_world_examples.specs.Agents.{newest}
use Rattle.chk_world_examples.specs.LongRound.{world, day_8, line_11, past_8, text_of, first_chunk, second_chunk, request_2, entry_2, body_2, reply_2, stem_2, sink_2, head_2, mark_2, mark_2_tmp, done_2, k27, k28, k29, k30, k31, k32, k33, k34, k35, k36, k37, k38, k39, k40, k41, k42, k43, k44, k45, k46, k47, k48, k49, k50}
use Rattle.chk_world_examples.proofs.ExampleMessages.{is_poll, one_body, in_one, in_none}
use Rattle.chk_world_examples.proofs.LongMessages.{is_post_1, is_post_2, posted_2, replied_2, three_not_zero}
use Rattle.chk_world_examples.proofs.Went.{went}
use Rattle.chk_world_examples.proofs.Unfolded.{texts}
use Rattle.chk_control.specs.Classes.{is_plain}
use Rattle.chk_site.specs.Acts.{Renames}
use Rattle.chk_site.specs.Suffixes.{is_after}
use Rattle.chk_world.specs.Names.{CheckFile, spell}
use Rattle.chk_world.specs.Collectors.{IsPosted, view}
use Rattle.chk_world.proofs.Ends.{bytes_same}
use Rattle.chk_world_examples.proofs.Present.{is_among, names_of, no_others}
use Rattle.chk_world_examples.proofs.LongRead.{klegal27}

-- ---- a writer rotates the log, and appends to the new base file

-- the path's line is that of each checkpoint
only_line : (files : Files) (l : Line) → lines_in (files check) ≡ l ∷ []
    → ((source : List ℕ) → bytes_eq (spell (CheckFile source)) check ≡ false → files (spell (CheckFile source)) ≡ None)
    → (source : List ℕ) (m : Line) → Contains (checkpoint_lines files source) m → l ≡ m
only_line files l here others source m c = go (bytes_eq (spell (CheckFile source)) check) refl
  where
    go : (b : Bool) → bytes_eq (spell (CheckFile source)) check ≡ b → l ≡ m
    go true e = in_one l m
        (subst (λ ls. Contains ls m) (ap (λ w. lines_in (files w)) (bytes_same (spell (CheckFile source)) check e) ∙ here) c)
    go false e = absurd (in_none m (subst (λ o. Contains (lines_in o) m) (others source e) c))

lines_27 : lines_in (files_after k27 check) ≡ line_11 ∷ []
unfolding texts
lines_27 = refl

among_27 : (source : List ℕ) → is_among (names_of k27) (spell (CheckFile source))
    ≡ (bytes_eq (spell (CheckFile source)) check || (bytes_eq (spell (CheckFile source)) check || false))
unfolding texts
among_27 source = refl

only_27 : (source : List ℕ) (m : Line) → Contains (checkpoint_lines (files_after k27) source) m → line_11 ≡ m
only_27 = only_line (files_after k27) line_11 lines_27
    (λ source e. no_others [] k27 klegal27 (spell (CheckFile source)) (among_27 source ∙ ap (λ b. b || (b || false)) e))

rotatable : IsRotatable (files_after k27) path
rotatable source m c at = subst (λ (m : Line). IsFalse (is_plain m.class)) (only_27 source m c) refl

pub klegal28 : Legal [] k28
unfolding texts
klegal28 = (
  klegal27,
  record {
    honest = record {
      modelled = record { effect = record { did = LogTurned path day_8; may = (refl, refl); files_left = λ n. refl; logs_left = λ p. refl }; small = omega arith };
      agrees = tt;
    };
    named = refl;
    starts = refl;
    own_files = tt;
    logs = refl;
    requests = tt;
    rule = (refl, rotatable);
  },
)

pub klegal29 : Legal [] k29
unfolding texts
klegal29 =
    went log LogAppend (path ∷ world ∷ []) 0 0 [] 0 0 k28 klegal28
    (omega arith) tt refl refl tt refl tt tt

-- ---- the agent is shown that the generation ends there, and publishes its place behind it

pub klegal30 : Legal [] k30
unfolding texts
klegal30 =
    went a1 LogRead (path ∷ codes "-" ∷ []) 6 131072 ([] ∷ day_8 ∷ []) 0 0 k29 klegal29
    tt (omega arith, refl) refl refl tt tt tt (0, line_11, omega arith, refl, (refl, (refl, refl, omega arith)))

pub klegal31 : Legal [] k31
unfolding texts
klegal31 = went a1 Create (check_tmp ∷ []) 0 0 [] 0 0 k30 klegal30 tt refl refl refl refl tt tt tt

pub klegal32 : Legal [] k32
unfolding texts
klegal32 =
    went a1 Append (check_tmp ∷ text_of past_8 ∷ []) 0 0 [] 0 0 k31 klegal31
    (omega arith) refl refl refl refl tt tt tt

pub klegal33 : Legal [] k33
unfolding texts
klegal33 = went a1 Sync (check_tmp ∷ []) 0 0 [] 0 0 k32 klegal32 tt refl refl refl refl tt tt tt

rule_34 : AgentRule a1 k33 (newest k34) (Renames check_tmp check)
unfolding texts
rule_34 = (
  refl,
  (
    past_8 ∷ [],
    refl,
    record {
      none_lost = λ l c. subst (λ (l : Line). Any (λ (m : Line). IsTrue (same_log l m)) (past_8 ∷ [])) (in_one line_11 l c)
          (0, past_8, omega arith, refl, refl);
      each = λ l c. subst (λ (l : Line). LineMay a1 k33 (stream_of (codes "h1") l) (line_of (files_after k33) (stream_of (codes "h1") l)) l)
          (in_one past_8 l c) (record { class = refl; start = refl; offset = omega arith; after = inr refl; acknowledged = λ o low high. absurd (omega arith) });
      true_at = λ t l c. subst (λ (l : Line). LineIsTrue k34 (stream_of (codes "h1") l) l) (in_one past_8 l c)
          (record { place = record { first = refl; on = omega arith; within = omega arith }; cut = inr refl });
    },
  ),
)

pub klegal34 : Legal [] k34
unfolding texts
klegal34 =
    went a1 Rename (check_tmp ∷ check ∷ []) 0 0 [] 0 0 k33 klegal33
    tt refl refl refl (refl, (refl, refl)) tt tt rule_34

-- ---- the writer deletes the generation, which the checkpoint has passed

lines_34 : lines_in (files_after k34 check) ≡ past_8 ∷ []
unfolding texts
lines_34 = refl

among_34 : (source : List ℕ) → is_among (names_of k34) (spell (CheckFile source))
    ≡ (bytes_eq (spell (CheckFile source)) check
    || (bytes_eq (spell (CheckFile source)) check || (bytes_eq (spell (CheckFile source)) check || false)))
unfolding texts
among_34 source = refl

only_34 : (source : List ℕ) (m : Line) → Contains (checkpoint_lines (files_after k34) source) m → past_8 ≡ m
only_34 = only_line (files_after k34) past_8 lines_34
    (λ source e. no_others [] k34 klegal34 (spell (CheckFile source)) (among_34 source ∙ ap (λ b. b || (b || (b || false))) e))

passed : IsPassed (files_after k34) path day_8
passed source m c at = subst (λ (m : Line). IsFalse (is_after m.after day_8)) (only_34 source m c) refl

pub klegal35 : Legal [] k35
unfolding texts
klegal35 = (
  klegal34,
  record {
    honest = record {
      modelled = record { effect = record { did = LogDropped path day_8; may = refl; files_left = λ n. refl; logs_left = λ p. refl }; small = omega arith };
      agrees = tt;
    };
    named = refl;
    starts = refl;
    own_files = tt;
    logs = refl;
    requests = tt;
    rule = (refl, passed);
  },
)

-- ---- the agent reads on, and posts the next chunk

pub klegal36 : Legal [] k36
unfolding texts
klegal36 =
    went a1 LogRead (path ∷ day_8 ∷ []) 0 131072 (world ∷ []) 0 0 k35 klegal35
    tt (omega arith, refl) refl refl tt tt tt (0, past_8, omega arith, refl, (refl, (refl, refl, omega arith)))

may_send_2 : MaySendChunk a1 k36 second_chunk
unfolding texts
may_send_2 = record { source = refl; known = refl; is_true = record { start = refl; data_is = refl }; cut = refl }

sends_2 : SendsTrueChunks a1 k36 (codes "self") request_2
unfolding texts
sends_2 = record {
  chunks = second_chunk ∷ [];
  is_post = is_post_2;
  each = λ c o. subst (MaySendChunk a1 k36) (in_one second_chunk c o) may_send_2;
  cluster = no_cluster;
  here = λ c o. subst (λ c. c.key.cluster ≡ no_cluster) (in_one second_chunk c o) refl;
  before = (tt, (tt, (tt, (tt, (tt, (tt, (tt, (tt, (tt, (tt, (tt, (inr (stem ∷ [], is_poll), (tt, (inl (first_chunk ∷ [], is_post_1, λ c o. subst (λ c. c.key.cluster ≡ no_cluster) (in_one first_chunk c o) refl), (tt, (tt, (tt, (tt, (tt, (tt, tt))))))))))))))))))));
}

pub klegal37 : Legal [] k37
unfolding texts
klegal37 =
    went a1 Send (codes "self" ∷ request_2 ∷ []) 3 0 [] 3 0 k36 klegal36
    tt (((λ e. three_not_zero e), refl), refl) refl refl tt tt tt (inl sends_2)

-- ---- the collector writes that to a second sink, and ends this one first

pub klegal38 : Legal [] k38
unfolding texts
klegal38 =
    went c1 Take (codes "self" ∷ []) 0 0 (request_2 ∷ []) 3 3 k37 klegal37
    tt ((refl, (λ e. three_not_zero e), refl, ([], refl)), (refl, request_2, refl, refl)) refl refl tt tt tt tt

pub klegal39 : Legal [] k39
unfolding texts
klegal39 =
    went c1 Create (sink_2 ∷ []) 0 0 [] 0 0 k38 klegal38
    tt refl refl refl refl tt tt (refl, refl)

pub klegal40 : Legal [] k40
unfolding texts
klegal40 =
    went c1 Append (sink_2 ∷ head_2 ∷ []) 0 0 [] 0 0 k39 klegal39
    (omega arith) refl refl refl refl tt tt (refl, refl)

was_posted_2 : IsPosted (view c1 k40).handled second_chunk
unfolding texts
was_posted_2 = record {
  message = record {
    taking = 3;
    bytes = request_2;
    answered = false;
    newest = true;
    synced = false;
    appends = record { stem = stem_2; piece = head_2; end = 96 } ∷ [];
  };
  taken = (0, omega arith, refl);
  chunks = second_chunk ∷ [];
  open_yet = refl;
  post = posted_2;
  one = (0, omega arith, refl);
}

pub klegal41 : Legal [] k41
unfolding texts
klegal41 =
    went c1 Append (sink_2 ∷ entry_2 ∷ []) 0 0 [] 0 0 k40 klegal40
    (omega arith) refl refl refl refl tt tt (refl, (second_chunk, key_2 second_chunk.key, was_posted_2, inr (refl, refl), refl))

pub klegal42 : Legal [] k42
unfolding texts
klegal42 =
    went c1 Answer (reply_2 ∷ []) 3 0 [] 0 0 k41 klegal41
    tt tt refl refl tt tt tt (refl, λ b r. (record { stem = stem_2; number = 158 } ∷ [], one_body 200 200 b body_2 reply_2 r replied_2, inl (record { newest = refl; open_yet = refl; chunks = second_chunk ∷ []; post = posted_2; lines = inr (inl (record { stem = refl; end = refl; entry = entry_2; is = (key_2 second_chunk.key, inr (refl, refl), refl); piece = inl refl }, tt)) })))

pub klegal43 : Legal [] k43
unfolding texts
klegal43 =
    went a1 Got [] 3 0 (reply_2 ∷ []) 0 0 k42 klegal42
    tt (inl (refl, refl)) refl refl tt tt tt tt

pub klegal44 : Legal [] k44
unfolding texts
klegal44 = went c1 Sync (sink_2 ∷ []) 0 0 [] 0 0 k43 klegal43 tt refl refl refl refl tt tt tt

pub klegal45 : Legal [] k45
unfolding texts
klegal45 =
    went c1 Create (mark_2_tmp ∷ []) 0 0 [] 0 0 k44 klegal44
    tt refl refl refl refl tt tt tt

pub klegal46 : Legal [] k46
unfolding texts
klegal46 =
    went c1 Append (mark_2_tmp ∷ be64 158 ∷ []) 0 0 [] 0 0 k45 klegal45
    (omega arith) refl refl refl refl tt tt tt

pub klegal47 : Legal [] k47
unfolding texts
klegal47 = went c1 Sync (mark_2_tmp ∷ []) 0 0 [] 0 0 k46 klegal46 tt refl refl refl refl tt tt tt

pub klegal48 : Legal [] k48
unfolding texts
klegal48 =
    went c1 Rename (mark_2_tmp ∷ mark_2 ∷ []) 0 0 [] 0 0 k47 klegal47
    tt refl refl refl (refl, (refl, refl)) tt tt (refl, ((refl, refl, omega arith), omega arith, ((refl, refl), (refl, tt))))

pub klegal49 : Legal [] k49
unfolding texts
klegal49 =
    went c1 Rename (sink_2 ∷ done_2 ∷ []) 0 0 [] 0 0 k48 klegal48
    tt refl refl refl (refl, refl) tt tt (refl, (refl, refl))

pub klegal50 : Legal [] k50
unfolding texts
klegal50 = went c1 Remove (mark_2 ∷ []) 0 0 [] 0 0 k49 klegal49 tt refl refl refl refl tt tt tt
