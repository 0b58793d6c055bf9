-- Of the steps that a rule refuses: all else that a step owes holds of them.
use Rattle.chk_site.specs.declared.acts.Call.TheVariants.{Create, Append, Rename, Remove, LogRead, LogAppend, Send, Answer, Clock, Cut, Say}
use Rattle.chk_world.specs.ArchiveRuns.{report}
use Rattle.chk_world_examples.specs.Texts.{reply, c1, born, born_tmp, sink, a1, path, check_tmp, check, hello, line, request, entry, mark_tmp, mark, done_sink, seg, book_tmp, book_name, book_text}
use Rattle.chk_world.specs.Sight.{job}
use Rattle.chk_world_examples.specs.Moments.{g4, g6, g7, g8, g9, g10, g12, g24, g27, g29, g30, g33, g34, g38, g39, w3, p22, p23, p28, p29}
use Rattle.chk_world_examples.proofs.Went.{else_holds}
use Rattle.std.proofs.Common.{[], ◌∷◌, refl, subst, inl, arith}
use Rattle.std.specs.Prelude.{codes}
use Rattle.chk_site.specs.declared.acts.CallFault.TheVariants.{Short}
use Rattle.chk_site.specs.declared.acts.ActAnswer.TheVariants.{Done, Refused}
use Rattle.chk_site.specs.Files.{Nothing, Created, Grown, Moved, Gone, LogGrown}
use Rattle.chk_site.specs.History.{History, files_after}
use Rattle.chk_world.specs.Checkpoints.{Line, line_of}
use Rattle.chk_world.specs.Agents.{LineMay, LineIsTrue, stream_of}
use Rattle.chk_world.specs.Books.{One as book_1, book_bytes}
use Rattle.chk_world_examples.proofs.ExampleMessages.{in_one, in_none, one_not_zero}
use Rattle.chk_world_examples.specs.Collectors.{second_born, third_sink, failed, untaken, polled_early, synced_first}
use Rattle.chk_world_examples.specs.Agents.{next_check, no_line, no_request, other_path}
use Rattle.chk_world_examples.specs.Jobs.{next_book, long_book, empty_book}
use Rattle.chk_world_examples.proofs.Unfolded.{texts}
use Rattle.chk_world_examples.specs.Refusing.{ObeysBut, next_by, OwnFiles, Requests, Starting, TheLogs, TheRule}

-- the steps that the collector's rule refuses

pub born_twice : ObeysBut TheRule second_born (next_by c1 Rename (born_tmp ∷ born ∷ []) 0 0 (Done [] 0 0) second_born)
unfolding texts
born_twice = else_holds c1 Rename (born_tmp ∷ born ∷ []) 0 0 [] 0 0 second_born tt refl refl refl
    (refl, (refl, refl)) tt tt

pub skipped_name : ObeysBut TheRule g10 (next_by c1 Create (third_sink ∷ []) 0 0 (Done [] 0 0) g10)
unfolding texts
skipped_name = else_holds c1 Create (third_sink ∷ []) 0 0 [] 0 0 g10 tt refl refl refl refl tt tt

pub after_failure : ObeysBut TheRule failed (next_by c1 Append (sink ∷ entry ∷ []) 0 0 (Done [] 0 0) failed)
unfolding texts
after_failure = else_holds c1 Append (sink ∷ entry ∷ []) 0 0 [] 0 0 failed (omega arith) refl refl
    refl refl tt tt

pub not_posted : ObeysBut TheRule untaken (next_by c1 Append (sink ∷ entry ∷ []) 0 0 (Done [] 0 0) untaken)
unfolding texts
not_posted = else_holds c1 Append (sink ∷ entry ∷ []) 0 0 [] 0 0 untaken (omega arith) refl refl
    refl refl tt tt

pub mark_before_sync : ObeysBut TheRule w3 (next_by c1 Rename (mark_tmp ∷ mark ∷ []) 0 0 (Done [] 0 0) w3)
unfolding texts
mark_before_sync = else_holds c1 Rename (mark_tmp ∷ mark ∷ []) 0 0 [] 0 0 w3 tt refl refl refl
    (refl, (refl, refl)) tt tt

pub done_unmarked : ObeysBut TheRule g12 (next_by c1 Rename (sink ∷ done_sink ∷ []) 0 0 (Done [] 0 0) g12)
unfolding texts
done_unmarked = else_holds c1 Rename (sink ∷ done_sink ∷ []) 0 0 [] 0 0 g12 tt refl refl refl
    (refl, refl) tt tt

pub done_past_its_mark : ObeysBut TheRule p22 (next_by c1 Rename (sink ∷ done_sink ∷ []) 0 0 (Done [] 0 0) p22)
unfolding texts
done_past_its_mark = else_holds c1 Rename (sink ∷ done_sink ∷ []) 0 0 [] 0 0 p22 tt refl refl refl
    (refl, refl) tt tt

pub cut_below : ObeysBut TheRule p28 (next_by c1 Cut (sink ∷ []) 96 0 (Done [] 0 0) p28)
unfolding texts
cut_below = else_holds c1 Cut (sink ∷ []) 96 0 [] 0 0 p28 tt (omega arith) refl refl refl tt tt

pub removed_marked : ObeysBut TheRule p28 (next_by c1 Remove (sink ∷ []) 0 0 (Done [] 0 0) p28)
unfolding texts
removed_marked = else_holds c1 Remove (sink ∷ []) 0 0 [] 0 0 p28 tt refl refl refl refl tt tt

pub mark_removed_early : ObeysBut TheRule p29 (next_by c1 Remove (mark ∷ []) 0 0 (Done [] 0 0) p29)
unfolding texts
mark_removed_early = else_holds c1 Remove (mark ∷ []) 0 0 [] 0 0 p29 tt refl refl refl refl tt tt

pub answered_early : ObeysBut TheRule g10 (next_by c1 Answer (reply ∷ []) 1 0 (Done [] 0 0) g10)
unfolding texts
answered_early = else_holds c1 Answer (reply ∷ []) 1 0 [] 0 0 g10 tt tt refl refl tt tt tt

pub not_committed : ObeysBut TheRule polled_early (next_by c1 Answer (reply ∷ []) 2 0 (Done [] 0 0) polled_early)
unfolding texts
not_committed = else_holds c1 Answer (reply ∷ []) 2 0 [] 0 0 polled_early tt tt refl refl tt tt tt

pub synced_before : ObeysBut TheRule synced_first (next_by c1 Answer (reply ∷ []) 1 0 (Done [] 0 0) synced_first)
unfolding texts
synced_before = else_holds c1 Answer (reply ∷ []) 1 0 [] 0 0 synced_first tt tt refl refl tt tt tt

-- the agent's

pub loses_a_stream : ObeysBut TheRule (next_check no_line g6) (next_by a1 Rename (check_tmp ∷ check ∷ []) 0 0 (Done [] 0 0) (next_check no_line g6))
unfolding texts
loses_a_stream = else_holds a1 Rename (check_tmp ∷ check ∷ []) 0 0 [] 0 0 (next_check no_line g6)
    tt refl refl refl (refl, (refl, refl)) tt tt

pub read_again : ObeysBut TheRule g27 (next_by a1 LogRead (path ∷ codes "base" ∷ []) 0 131072 (Done (hello ∷ []) 0 0) g27)
unfolding texts
read_again = else_holds a1 LogRead (path ∷ codes "base" ∷ []) 0 131072 (hello ∷ []) 0 0 g27 tt
    (omega arith, refl) refl refl tt tt tt

pub sends_no_request : ObeysBut TheRule g7 (next_by a1 Send (codes "self" ∷ no_request ∷ []) 1 0 (Done [] 1 0) g7)
unfolding texts
sends_no_request = else_holds a1 Send (codes "self" ∷ no_request ∷ []) 1 0 [] 1 0 g7 tt
    (((λ e. one_not_zero e), refl), refl) refl refl tt tt tt

pub unread : ObeysBut TheRule (next_check hello g6) (next_by a1 Rename (check_tmp ∷ check ∷ []) 0 0 (Done [] 0 0) (next_check hello g6))
unfolding texts
unread = else_holds a1 Rename (check_tmp ∷ check ∷ []) 0 0 [] 0 0 (next_check hello g6) tt refl
    refl refl (refl, (refl, refl)) tt tt

pub reads_another : ObeysBut TheRule g27 (next_by a1 LogRead (other_path ∷ codes "base" ∷ []) 6 131072 (Refused (Short 0)) g27)
unfolding texts
reads_another = record {
  honest = record {
    modelled = record { effect = record { did = Nothing; may = refl; files_left = λ n. refl; logs_left = λ p. refl }; small = tt };
    agrees = (omega arith, refl);
  };
  named = refl;
  starts = refl;
  own_files = tt;
  logs = tt;
  requests = tt;
  rule = tt;
}

-- the job's

pub segment_not_synced : ObeysBut TheRule (next_book book_text g33) (next_by job Rename (book_tmp ∷ book_name ∷ []) 0 0 (Done [] 0 0) (next_book book_text g33))
unfolding texts
segment_not_synced = else_holds job Rename (book_tmp ∷ book_name ∷ []) 0 0 [] 0 0
    (next_book book_text g33) tt refl refl refl (refl, (refl, refl)) tt tt

pub past_its_end : ObeysBut TheRule (next_book (book_bytes book_1 long_book) g34) (next_by job Rename (book_tmp ∷ book_name ∷ []) 0 0 (Done [] 0 0) (next_book (book_bytes book_1 long_book) g34))
unfolding texts
past_its_end = else_holds job Rename (book_tmp ∷ book_name ∷ []) 0 0 [] 0 0
    (next_book (book_bytes book_1 long_book) g34) tt refl refl refl (refl, (refl, refl)) tt tt

pub archive_lost : ObeysBut TheRule (next_book (book_bytes book_1 empty_book) g39) (next_by job Rename (book_tmp ∷ book_name ∷ []) 0 0 (Done [] 0 0) (next_book (book_bytes book_1 empty_book) g39))
unfolding texts
archive_lost = else_holds job Rename (book_tmp ∷ book_name ∷ []) 0 0 [] 0 0
    (next_book (book_bytes book_1 empty_book) g39) tt refl refl refl (refl, (refl, refl)) tt tt

pub named_segment_changed : ObeysBut TheRule g38 (next_by job Append (seg ∷ entry ∷ []) 0 0 (Done [] 0 0) g38)
unfolding texts
named_segment_changed = else_holds job Append (seg ∷ entry ∷ []) 0 0 [] 0 0 g38 (omega arith) refl
    refl refl refl tt tt

pub not_archived : ObeysBut TheRule g29 (next_by job Remove (done_sink ∷ []) 0 0 (Done [] 0 0) g29)
unfolding texts
not_archived = else_holds job Remove (done_sink ∷ []) 0 0 [] 0 0 g29 tt refl refl refl refl tt tt

pub no_run : ObeysBut TheRule g30 (next_by job Say (report 0 0 0 0 ∷ []) 0 0 (Done [] 0 0) g30)
unfolding texts
no_run = else_holds job Say (report 0 0 0 0 ∷ []) 0 0 [] 0 0 g30 tt tt refl refl tt tt tt

pub no_newline : ObeysBut TheRule g30 (next_by job Say (codes "done" ∷ []) 0 0 (Done [] 0 0) g30)
unfolding texts
no_newline = else_holds job Say (codes "done" ∷ []) 0 0 [] 0 0 g30 tt tt refl refl tt tt tt

-- those that the rules of all processes refuse
abbrev published : History
published = next_by a1 Rename (check_tmp ∷ check ∷ []) 0 0 (Done [] 0 0) g4 ∷ g4

pub others_file : ObeysBut OwnFiles g9 (next_by a1 Create (sink ∷ []) 0 0 (Done [] 0 0) g9)
unfolding texts
others_file = record {
  honest = record {
    modelled = record { effect = record { did = Created sink; may = refl; files_left = λ n. refl; logs_left = λ p. refl }; small = tt };
    agrees = refl;
  };
  named = refl;
  starts = refl;
  own_files = tt;
  logs = tt;
  requests = tt;
  rule = tt;
}

pub published_unsynced : ObeysBut OwnFiles g4 (next_by a1 Rename (check_tmp ∷ check ∷ []) 0 0 (Done [] 0 0) g4)
unfolding texts
published_unsynced = record {
  honest = record {
    modelled = record { effect = record { did = Moved check_tmp check; may = refl; files_left = λ n. refl; logs_left = λ p. refl }; small = tt };
    agrees = refl;
  };
  named = refl;
  starts = refl;
  own_files = tt;
  logs = tt;
  requests = tt;
  rule = (
    refl,
    (
      line ∷ [],
      refl,
      record {
        none_lost = λ l c. absurd (in_none l c);
        each = λ l c. subst (λ (l : Line). LineMay a1 g4 (stream_of (codes "h1") l) (line_of (files_after g4) (stream_of (codes "h1") l)) l)
            (in_one line l c) (record { first = refl; offset = refl; after = refl });
        true_at = λ t l c. subst (λ (l : Line). LineIsTrue published (stream_of (codes "h1") l) l) (in_one line l c)
            (record { place = record { first = refl; on = omega arith; within = omega arith }; cut = inl refl });
      },
    ),
  );
}

pub published_changed : ObeysBut OwnFiles g24 (next_by a1 Append (check ∷ hello ∷ []) 0 0 (Done [] 0 0) g24)
unfolding texts
published_changed = record {
  honest = record {
    modelled = record { effect = record { did = Grown check hello; may = refl; files_left = λ n. refl; logs_left = λ p. refl }; small = omega arith };
    agrees = refl;
  };
  named = refl;
  starts = refl;
  own_files = tt;
  logs = tt;
  requests = tt;
  rule = tt;
}

pub removed_by_agent : ObeysBut OwnFiles g38 (next_by a1 Remove (done_sink ∷ []) 0 0 (Done [] 0 0) g38)
unfolding texts
removed_by_agent = record {
  honest = record {
    modelled = record { effect = record { did = Gone done_sink; may = refl; files_left = λ n. refl; logs_left = λ p. refl }; small = tt };
    agrees = refl;
  };
  named = refl;
  starts = refl;
  own_files = tt;
  logs = tt;
  requests = tt;
  rule = tt;
}

pub goes_on : ObeysBut Starting p23 (next_by c1 Clock ([]) 0 0 (Done [] 0 0) p23)
unfolding texts
goes_on = record {
  honest = record {
    modelled = record { effect = record { did = Nothing; may = refl; files_left = λ n. refl; logs_left = λ p. refl }; small = tt };
    agrees = tt;
  };
  named = refl;
  starts = tt;
  own_files = tt;
  logs = tt;
  requests = tt;
  rule = tt;
}

pub log_changed : ObeysBut TheLogs g8 (next_by a1 LogAppend (path ∷ hello ∷ []) 0 0 (Done [] 0 0) g8)
unfolding texts
log_changed = record {
  honest = record {
    modelled = record { effect = record { did = LogGrown path hello; may = refl; files_left = λ n. refl; logs_left = λ p. refl }; small = omega arith };
    agrees = tt;
  };
  named = refl;
  starts = refl;
  own_files = tt;
  logs = tt;
  requests = tt;
  rule = tt;
}

pub requested : ObeysBut Requests g7 (next_by c1 Send (codes "self" ∷ request ∷ []) 1 0 (Done [] 1 0) g7)
unfolding texts
requested = record {
  honest = record {
    modelled = record { effect = record { did = Nothing; may = refl; files_left = λ n. refl; logs_left = λ p. refl }; small = tt };
    agrees = (((λ e. one_not_zero e), refl), refl);
  };
  named = refl;
  starts = refl;
  own_files = tt;
  logs = tt;
  requests = tt;
  rule = tt;
}
