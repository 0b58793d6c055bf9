-- Of each of the seven rules a step that it allows and one that it refuses.
use Rattle.chk_site.specs.declared.acts.Call.TheVariants.{Start, Create, Append, Sync, Rename, Clock}
use Rattle.chk_world.specs.ArchiveRuns.{report, is_closed, sink_path, IsArchiveRun}
use Rattle.chk_world_examples.specs.Texts.{chunk, poll, c1, path, mark, done_sink}
use Rattle.chk_world_examples.specs.Moments.{h6, g7, g38, g39}
use Rattle.chk_world_examples.proofs.Went.{went}
use Rattle.std.proofs.Common.{◌≡◌, ℕ, ◌+◌, ◌-◌, ◌<◌, ◌^◌, Bool, true, false, List, [], ◌∷◌, length, Option, Some, None, option_map, bytes_eq, refl, ap, sym, ◌∙◌, inl, subst, true≢false, arith, if◌then◌else◌}
use Rattle.std.specs.Prelude.{codes, replicate}
use Rattle.std.proofs.lemmas.List.{length-replicate}
use Rattle.std.proofs.lemmas.Slice.Eq.{bytes_eq-Decides}
use Rattle.chk_site.specs.declared.acts.ActAnswer.TheVariants.{Done}
use Rattle.chk_site.specs.Files.{File, Nothing, LogGrown}
use Rattle.chk_site.specs.Effect.{with_tail, TailFits}
use Rattle.chk_site.specs.History.{files_after}
use Rattle.chk_world.specs.Checkpoints.{Line, Two, checkpoint_text, line_of}
use Rattle.chk_world.specs.Agents.{LineMay, LineIsTrue, stream_of}
use Rattle.chk_world.specs.Rules.{Legal, Obeys}
use Rattle.chk_world_examples.specs.Refusing.{TheRule, Starting, ObeysBut, by}
use Rattle.chk_world_examples.specs.Agents.{reads_past, between, day_9, rotated}
use Rattle.chk_world_examples.specs.Processes.{stopped_removal, sends}
use Rattle.chk_world_examples.specs.SevenRules.{SevenRules, grows_by, GrowsAlone, line_5, other_check, other_check_tmp, a2, q1, q2, q3, q4, q5, reports}
use Rattle.chk_world_examples.proofs.ExampleMessages.{in_one, in_none, one_not_zero}
use Rattle.chk_world_examples.proofs.ExampleListing.{in_two}
use Rattle.chk_world_examples.proofs.ExampleJob.{glegal38, glegal39}
use Rattle.chk_world_examples.proofs.ExampleRun.{archived, has_reached, listing}
use Rattle.chk_world_examples.proofs.Refusals.{obeys}
use Rattle.chk_world_examples.proofs.AsideAgain.{same_data_stays, other_data_is_lost}
use Rattle.chk_world_examples.proofs.Unfolded.{texts}
use Rattle.chk_world_examples.proofs.WrongAlone
use Rattle.chk_world_examples.proofs.WrongArchives
use Rattle.chk_world_examples.proofs.WrongJob
use Rattle.chk_world_examples.proofs.WrongReads

-- ---- a stop in the removal of a done sink

-- a tail of no bytes leaves a file that is all synced as it is
left_if : (b : Bool) (o : Option File) → (b ≡ true → o ≡ option_map (with_tail (Some [])) o)
    → o ≡ option_map (with_tail (if b then Some [] else None)) o
left_if true o whole = whole refl
left_if false None whole = refl
left_if false (Some f) whole = refl

fits_if : (b : Bool) (o : Option File) → (b ≡ true → TailFits 0 (Some []) o) → TailFits 0 (if b then Some [] else None) o
fits_if true o fits = fits refl
fits_if false o fits = tt

left_whole : (n : List ℕ) → bytes_eq n done_sink ≡ true → files_after g38 n ≡ option_map (with_tail (Some [])) (files_after g38 n)
unfolding texts
left_whole n e =
    subst (λ n. files_after g38 n ≡ option_map (with_tail (Some [])) (files_after g38 n)) (sym ((bytes_eq-Decides n done_sink).0 e)) refl

left_fits : (n : List ℕ) → bytes_eq n done_sink ≡ true → TailFits 0 (Some []) (files_after g38 n)
unfolding texts
left_fits n e = subst (λ n. TailFits 0 (Some []) (files_after g38 n)) (sym ((bytes_eq-Decides n done_sink).0 e)) (omega arith)

removal_is_legal : Legal [] (stopped_removal done_sink)
unfolding texts
removal_is_legal = (
  glegal38,
  record {
    honest = record {
      modelled = record {
        effect = record {
          did = Nothing;
          may = refl;
          files_left = λ n. (
            left_if (bytes_eq n done_sink) (files_after g38 n) (left_whole n),
            fits_if (bytes_eq n done_sink) (files_after g38 n) (left_fits n),
          );
          logs_left = λ p. refl;
        };
        small = tt;
      };
      agrees = tt;
    };
    named = refl;
    starts = refl;
    own_files = refl;
    logs = tt;
    requests = tt;
    rule = glegal39.1.rule;
  },
)

after_mark : ObeysBut Starting (stopped_removal mark) (by c1 Clock [] (stopped_removal mark))
unfolding texts
after_mark = record {
  honest = record {
    modelled = record { effect = record { did = Nothing; may = refl; files_left = λ n. refl; logs_left = λ p. refl }; small = tt };
    agrees = tt;
  };
  named = refl;
  starts = tt;
  own_files = tt;
  logs = tt;
  requests = tt;
  rule = tt;
}

after_sink : Obeys [] (stopped_removal done_sink) (by c1 Clock [] (stopped_removal done_sink))
unfolding texts
after_sink = record {
  honest = record {
    modelled = record { effect = record { did = Nothing; may = refl; files_left = λ n. refl; logs_left = λ p. refl }; small = tt };
    agrees = tt;
  };
  named = refl;
  starts = refl;
  own_files = tt;
  logs = tt;
  requests = tt;
  rule = tt;
}

-- ---- a poll of a collector

polls : Obeys [] g7 (sends c1 poll g7)
unfolding texts
polls = record {
  honest = record {
    modelled = record { effect = record { did = Nothing; may = refl; files_left = λ n. refl; logs_left = λ p. refl }; small = tt };
    agrees = (((λ e. one_not_zero e), refl), refl);
  };
  named = refl;
  starts = refl;
  own_files = tt;
  logs = tt;
  requests = WrongJob.collector_polls;
  rule = tt;
}

-- ---- reads past a suffix of no generation

made_up_0 : ObeysBut TheRule rotated (reads_past between 0 (Done (codes "abcdefgh" ∷ day_9 ∷ []) 0 0) rotated)
unfolding texts
made_up_0 = record {
  honest = record {
    modelled = record { effect = record { did = Nothing; may = refl; files_left = λ n. refl; logs_left = λ p. refl }; small = tt };
    agrees = (omega arith, refl);
  };
  named = refl;
  starts = refl;
  own_files = tt;
  logs = tt;
  requests = tt;
  rule = tt;
}

made_up_2 : ObeysBut TheRule rotated (reads_past between 2 (Done (codes "cdefgh" ∷ day_9 ∷ []) 0 0) rotated)
unfolding texts
made_up_2 = record {
  honest = record {
    modelled = record { effect = record { did = Nothing; may = refl; files_left = λ n. refl; logs_left = λ p. refl }; small = tt };
    agrees = (omega arith, refl);
  };
  named = refl;
  starts = refl;
  own_files = tt;
  logs = tt;
  requests = tt;
  rule = tt;
}

-- ---- a log's length

some_of : (n : ℕ) → (piece : List ℕ) × (length piece ≡ n)
some_of n = (replicate n 10, length-replicate n 10)

grows_alone : (piece : List ℕ) → GrowsAlone piece
unfolding texts
grows_alone piece = record {
  effect = record { did = LogGrown path piece; may = refl; files_left = λ n. refl; logs_left = λ p. refl };
  bounded = λ h. record {
    honest = record {
      modelled = record {
        effect = record { did = LogGrown path piece; may = refl; files_left = λ n. refl; logs_left = λ p. refl };
        small = omega (arith, h);
      };
      agrees = tt;
    };
    named = refl;
    starts = refl;
    own_files = tt;
    logs = refl;
    requests = tt;
    rule = tt;
  };
}

too_long : (piece : List ℕ) → length piece ≡ 2 ^ 62 → Obeys [] h6 (grows_by piece) → ⊥
unfolding texts
too_long piece long o = let h : 0 + length piece < 2 ^ 62 = o.honest.modelled.small in omega (arith, h, long)

log_too_long : (p : (piece : List ℕ) × (length piece ≡ 2 ^ 62))
    → (piece : List ℕ) × (length piece ≡ 2 ^ 62) × GrowsAlone piece × (Obeys [] h6 (grows_by piece) → ⊥)
log_too_long p = (p.0, p.1, grows_alone p.0, too_long p.0 p.1)

log_fits : (p : (piece : List ℕ) × (length piece ≡ 2 ^ 62 - 1))
    → (piece : List ℕ) × (length piece + 1 ≡ 2 ^ 62) × Obeys [] h6 (grows_by piece)
log_fits p =
    let size = p.1 in
    let next : length p.0 + 1 ≡ 2 ^ 62 = omega (arith, size) in
    let below : length p.0 < 2 ^ 62 = omega (arith, size) in
    (p.0, next, (grows_alone p.0).bounded below)

-- ---- a stream that begins in a run

qlegal1 : Legal [] q1
unfolding texts
qlegal1 = went a2 Start [] 0 0 [] 0 0 g39 glegal39 tt tt refl tt tt tt tt tt

qlegal2 : Legal [] q2
unfolding texts
qlegal2 = went a2 Create (other_check_tmp ∷ []) 0 0 [] 0 0 q1 qlegal1 tt refl refl refl refl tt tt
    tt

qlegal3 : Legal [] q3
unfolding texts
qlegal3 = went a2 Append (other_check_tmp ∷ checkpoint_text Two (line_5 ∷ []) ∷ []) 0 0 [] 0 0 q2
    qlegal2 (omega arith) refl refl refl refl tt tt tt

qlegal4 : Legal [] q4
unfolding texts
qlegal4 = went a2 Sync (other_check_tmp ∷ []) 0 0 [] 0 0 q3 qlegal3 tt refl refl refl refl tt tt
    tt

qlegal5 : Legal [] q5
unfolding texts
qlegal5 = went a2 Rename (other_check_tmp ∷ other_check ∷ []) 0 0 [] 0 0 q4 qlegal4 tt refl refl
    refl (refl, (refl, refl)) tt tt (
      refl,
      (
        line_5 ∷ [],
        refl,
        record {
          none_lost = λ l c. absurd (in_none l c);
          each = λ l c. subst (λ (l : Line). LineMay a2 q4 (stream_of (codes "h2") l) (line_of (files_after q4) (stream_of (codes "h2") l)) l)
              (in_one line_5 l c) (record { first = refl; offset = refl; after = refl });
          true_at = λ t l c. subst (λ (l : Line). LineIsTrue q5 (stream_of (codes "h2") l) l) (in_one line_5 l c)
              (record { place = record { first = refl; on = omega arith; within = omega arith }; cut = inl refl });
        },
      ),
    )

archived_q5 : archived q5 ≡ chunk ∷ []
unfolding texts
archived_q5 = refl

ran : IsArchiveRun q5 listing 0 6 0 1
unfolding texts
ran = record {
  unclosed_is = refl;
  taken_is = refl;
  reached = has_reached q5 archived_q5;
  rest = record {
    aside = refl;
    held_is = refl;
    removed_is = refl;
    gone = λ name one. in_two (codes "c1.1.1.done") (codes "c1.born") name (λ z. is_closed z ≡ true → files_after q5 (sink_path z) ≡ None)
        (λ closed. refl) (λ closed. absurd (true≢false (sym closed))) one;
  };
}

-- a report of this run says so
numbers_are : (unclosed taken held removed : ℕ) → IsArchiveRun q5 listing unclosed taken held removed
    → report unclosed taken held removed ≡ report 0 6 0 1
unfolding texts
numbers_are unclosed taken held removed r =
    let a : unclosed ≡ 0 = r.unclosed_is in
    let b : taken ≡ 6 = r.taken_is in
    let c : held ≡ 0 = r.rest.held_is in
    let d : removed ≡ 1 = r.rest.removed_is in
    ap (λ n. report n taken held removed) a ∙ ap (λ n. report 0 n held removed) b
    ∙ ap (λ n. report 0 6 n removed) c ∙ ap (λ n. report 0 6 0 n) d

reports_6 : ObeysBut TheRule q5 (reports 6 q5)
unfolding texts
reports_6 = record {
  honest = record {
    modelled = record { effect = record { did = Nothing; may = refl; files_left = λ n. refl; logs_left = λ p. refl }; small = tt };
    agrees = tt;
  };
  named = refl;
  starts = refl;
  own_files = tt;
  logs = tt;
  requests = tt;
  rule = tt;
}

reports_11 : ObeysBut TheRule q5 (reports 11 q5)
unfolding texts
reports_11 = record {
  honest = record {
    modelled = record { effect = record { did = Nothing; may = refl; files_left = λ n. refl; logs_left = λ p. refl }; small = tt };
    agrees = tt;
  };
  named = refl;
  starts = refl;
  own_files = tt;
  logs = tt;
  requests = tt;
  rule = tt;
}

not_11 : Obeys [] q5 (reports 11 q5) → ⊥
unfolding texts
not_11 o =
    let p = o.rule.1.1 in
    let e : report 0 11 0 1 ≡ report 0 6 0 1 = p.is ∙ numbers_are p.unclosed p.taken p.held p.removed p.ran in
    true≢false (ap (λ t. bytes_eq t (report 0 11 0 1)) e)

pub seven : SevenRules
unfolding texts
seven = record {
  removal_is_legal = removal_is_legal;
  done_sinks_spare = record { others = after_mark; refused = λ o. WrongJob.stops_collector o.starts; allowed = after_sink };
  unbegun_stream = WrongArchives.not_begun;
  another_start = WrongArchives.another_start;
  begun_stream = WrongArchives.with_stream;
  other_data = other_data_is_lost;
  same_data = same_data_stays;
  anybody_polls = record { others = WrongAlone.requested; refused = λ o. WrongJob.requested o.requests; allowed = polls };
  made_up_suffix = record {
    others = made_up_0;
    refused = λ o. WrongReads.past_no_generation (reads_past between 0 (Done (codes "abcdefgh" ∷ day_9 ∷ []) 0 0) rotated) o.rule;
    allowed = obeys rotated (reads_past between 2 (Done (codes "cdefgh" ∷ day_9 ∷ []) 0 0) rotated) made_up_2
        (WrongReads.at_place_past_it (reads_past between 2 (Done (codes "cdefgh" ∷ day_9 ∷ []) 0 0) rotated));
  };
  log_too_long = log_too_long (some_of (2 ^ 62));
  log_fits = log_fits (some_of (2 ^ 62 - 1));
  start_then = refl;
  start_now = refl;
  run_is_legal = qlegal5;
  ends_from_listing = record {
    others = reports_11;
    refused = not_11;
    allowed = obeys q5 (reports 6 q5) reports_6
        (refl, (refl, record { unclosed = 0; taken = 6; held = 0; removed = 1; is = refl; ran = ran }));
  };
}
