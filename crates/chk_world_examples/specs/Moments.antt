-- The worked histories, step by step.
use Rattle.std.specs.Prelude.{ℕ, true, false, List, [], ◌∷◌, None, codes, option_map}
use Rattle.chk_bytes.specs.Numbers.{be64}
use Rattle.chk_site.specs.declared.acts.Who.{Who}
use Rattle.chk_site.specs.declared.acts.Act.{Act}
use Rattle.chk_site.specs.declared.acts.Call.{Call}
use Rattle.chk_site.specs.declared.acts.Call.TheVariants.{Start, Create, Append, Sync, Rename, Remove, LogRead, LogAppend, Send, Take, Answer, Got, Clock, Cut, List as ListNames, Say}
use Rattle.chk_site.specs.declared.acts.CallFault.TheVariants.{Missing}
use Rattle.chk_site.specs.declared.acts.ActAnswer.{ActAnswer}
use Rattle.chk_site.specs.declared.acts.ActAnswer.TheVariants.{Done, Refused, Stopped}
use Rattle.chk_site.specs.Files.{Change, Nothing, LogGrown, changed}
use Rattle.chk_site.specs.Logs.{no_logs, logs_changed}
use Rattle.chk_site.specs.Acts.{deed, deed_by, change_of, tail_of}
use Rattle.chk_site.specs.Effect.{with_tail}
use Rattle.chk_site.specs.History.{Step, History, files_after, logs_after, since_start}
use Rattle.chk_world.specs.ArchiveRuns.{report}
use Rattle.chk_world_examples.specs.Texts.{c1, born, born_tmp, sink, head, a1, log, path, check_tmp, check, hello, text, request, entry, mark_tmp, mark, text_6, done_sink, listed_names, seg, book_tmp, book_name, seg_head, book_text, left, reply, poll}
use Rattle.chk_world.specs.Sight.{job}

abbrev pub act_of : Call → List (List ℕ) → ActAnswer → Act
act_of call words answer = record { who = c1; call = call; words = words; number = 0; max = 0; answer = answer }

abbrev pub step_of : Act → Change → History → Step
step_of act did history = record { own = true; act = act; files = changed did (files_after history); logs = no_logs }

-- an act that was done
abbrev pub did : Call → List (List ℕ) → History → History
did call words history = step_of (act_of call words (Done [] 0 0)) (change_of (deed (act_of call words (Done [] 0 0)))) history ∷ history

-- an act that found no file
abbrev pub missed : Call → List (List ℕ) → History → History
missed call words history = step_of (act_of call words (Refused Missing)) Nothing history ∷ history

-- a call that was done, and that changes no log
abbrev pub done : Who → Call → List (List ℕ) → ℕ → ℕ → ActAnswer → History → History
done who call words number max answer history = record {
  own = true;
  act = record { who = who; call = call; words = words; number = number; max = max; answer = answer };
  files = changed (change_of (deed_by call words number max)) (files_after history);
  logs = logs_after history;
} ∷ history

abbrev pub h1 : History
h1 = did Start [] []

abbrev pub h2 : History
h2 = missed Remove (born_tmp ∷ []) h1

abbrev pub h3 : History
h3 = did Create (born_tmp ∷ []) h2

abbrev pub h4 : History
h4 = did Append (born_tmp ∷ be64 1 ∷ []) h3

abbrev pub h5 : History
h5 = did Sync (born_tmp ∷ []) h4

abbrev pub h6 : History
h6 = did Rename (born_tmp ∷ born ∷ []) h5

abbrev pub h7 : History
h7 = did Create (sink ∷ []) h6

abbrev pub g1 : History
g1 = record {
  own = false;
  act = record { who = log; call = LogAppend; words = path ∷ hello ∷ []; number = 0; max = 0; answer = Done [] 0 0 };
  files = files_after h6;
  logs = logs_changed (LogGrown path hello) (logs_after h6);
} ∷ h6

abbrev pub g2 : History
g2 = done a1 Start [] 0 0 (Done [] 0 0) g1

abbrev pub g3 : History
g3 = done a1 Create (check_tmp ∷ []) 0 0 (Done [] 0 0) g2

abbrev pub g4 : History
g4 = done a1 Append (check_tmp ∷ text ∷ []) 0 0 (Done [] 0 0) g3

abbrev pub g5 : History
g5 = done a1 Sync (check_tmp ∷ []) 0 0 (Done [] 0 0) g4

abbrev pub g6 : History
g6 = done a1 Rename (check_tmp ∷ check ∷ []) 0 0 (Done [] 0 0) g5

abbrev pub g7 : History
g7 = done a1 LogRead (path ∷ codes "base" ∷ []) 0 131072 (Done (hello ∷ []) 0 0) g6

abbrev pub g8 : History
g8 = done a1 Send (codes "self" ∷ request ∷ []) 1 0 (Done [] 1 0) g7

abbrev pub g9 : History
g9 = done c1 Take (codes "self" ∷ []) 0 0 (Done (request ∷ []) 1 1) g8

abbrev pub g10 : History
g10 = done c1 Create (sink ∷ []) 0 0 (Done [] 0 0) g9

abbrev pub g11 : History
g11 = done c1 Append (sink ∷ head ∷ []) 0 0 (Done [] 0 0) g10

abbrev pub g12 : History
g12 = done c1 Append (sink ∷ entry ∷ []) 0 0 (Done [] 0 0) g11

abbrev pub g13 : History
g13 = done c1 Answer (reply ∷ []) 1 0 (Done [] 0 0) g12

abbrev pub g14 : History
g14 = done a1 Got ([]) 1 0 (Done (reply ∷ []) 0 0) g13

abbrev pub g15 : History
g15 = done c1 Sync (sink ∷ []) 0 0 (Done [] 0 0) g14

abbrev pub g16 : History
g16 = done c1 Create (mark_tmp ∷ []) 0 0 (Done [] 0 0) g15

abbrev pub g17 : History
g17 = done c1 Append (mark_tmp ∷ be64 144 ∷ []) 0 0 (Done [] 0 0) g16

abbrev pub g18 : History
g18 = done c1 Sync (mark_tmp ∷ []) 0 0 (Done [] 0 0) g17

abbrev pub g19 : History
g19 = done c1 Rename (mark_tmp ∷ mark ∷ []) 0 0 (Done [] 0 0) g18

abbrev pub g20 : History
g20 = done a1 Send (codes "self" ∷ poll ∷ []) 2 0 (Done [] 2 0) g19

abbrev pub g21 : History
g21 = done c1 Take (codes "self" ∷ []) 0 0 (Done (poll ∷ []) 2 2) g20

abbrev pub g22 : History
g22 = done c1 Answer (reply ∷ []) 2 0 (Done [] 0 0) g21

abbrev pub g23 : History
g23 = done a1 Got ([]) 2 0 (Done (reply ∷ []) 0 0) g22

abbrev pub g24 : History
g24 = done a1 Create (check_tmp ∷ []) 0 0 (Done [] 0 0) g23

abbrev pub g25 : History
g25 = done a1 Append (check_tmp ∷ text_6 ∷ []) 0 0 (Done [] 0 0) g24

abbrev pub g26 : History
g26 = done a1 Sync (check_tmp ∷ []) 0 0 (Done [] 0 0) g25

abbrev pub g27 : History
g27 = done a1 Rename (check_tmp ∷ check ∷ []) 0 0 (Done [] 0 0) g26

abbrev pub g28 : History
g28 = done c1 Rename (sink ∷ done_sink ∷ []) 0 0 (Done [] 0 0) g27

abbrev pub g29 : History
g29 = done c1 Remove (mark ∷ []) 0 0 (Done [] 0 0) g28

abbrev pub g30 : History
g30 = done job Start ([]) 0 0 (Done [] 0 0) g29

abbrev pub l30 : History
l30 = done job ListNames (codes "sinks" ∷ []) 0 0 (Done listed_names 0 0) g30

abbrev pub g31 : History
g31 = done job Create (seg ∷ []) 0 0 (Done [] 0 0) l30

abbrev pub g32 : History
g32 = done job Append (seg ∷ seg_head ∷ []) 0 0 (Done [] 0 0) g31

abbrev pub g33 : History
g33 = done job Append (seg ∷ entry ∷ []) 0 0 (Done [] 0 0) g32

abbrev pub g34 : History
g34 = done job Sync (seg ∷ []) 0 0 (Done [] 0 0) g33

abbrev pub g35 : History
g35 = done job Create (book_tmp ∷ []) 0 0 (Done [] 0 0) g34

abbrev pub g36 : History
g36 = done job Append (book_tmp ∷ book_text ∷ []) 0 0 (Done [] 0 0) g35

abbrev pub g37 : History
g37 = done job Sync (book_tmp ∷ []) 0 0 (Done [] 0 0) g36

abbrev pub g38 : History
g38 = done job Rename (book_tmp ∷ book_name ∷ []) 0 0 (Done [] 0 0) g37

abbrev pub g39 : History
g39 = done job Remove (done_sink ∷ []) 0 0 (Done [] 0 0) g38

abbrev pub g40 : History
g40 = done job Say (report 0 6 0 1 ∷ []) 0 0 (Done [] 0 0) g39

-- a mark of the length before the sink is synced
abbrev pub w1 : History
w1 = done c1 Create (mark_tmp ∷ []) 0 0 (Done [] 0 0) g12

abbrev pub w2 : History
w2 = done c1 Append (mark_tmp ∷ be64 144 ∷ []) 0 0 (Done [] 0 0) w1

abbrev pub w3 : History
w3 = done c1 Sync (mark_tmp ∷ []) 0 0 (Done [] 0 0) w2

abbrev pub p20 : History
p20 = done a1 Send (codes "self" ∷ request ∷ []) 2 0 (Done [] 2 0) g19

abbrev pub p21 : History
p21 = done c1 Take (codes "self" ∷ []) 0 0 (Done (request ∷ []) 2 2) p20

abbrev pub p22 : History
p22 = done c1 Append (sink ∷ entry ∷ []) 0 0 (Done [] 0 0) p21

abbrev pub p23 : History
p23 = record {
  own = true;
  act = record { who = c1; call = Clock; words = []; number = 0; max = 0; answer = Stopped left };
  files = λ name. option_map (with_tail (tail_of left name)) (files_after p22 name);
  logs = logs_after p22;
} ∷ p22

abbrev pub p24 : History
p24 = done c1 Start ([]) 0 0 (Done [] 0 0) p23

abbrev pub p25 : History
p25 = done c1 Create (born_tmp ∷ []) 0 0 (Done [] 0 0) p24

abbrev pub p26 : History
p26 = done c1 Append (born_tmp ∷ be64 2 ∷ []) 0 0 (Done [] 0 0) p25

abbrev pub p27 : History
p27 = done c1 Sync (born_tmp ∷ []) 0 0 (Done [] 0 0) p26

abbrev pub p28 : History
p28 = done c1 Rename (born_tmp ∷ born ∷ []) 0 0 (Done [] 0 0) p27

abbrev pub p29 : History
p29 = done c1 Cut (sink ∷ []) 144 0 (Done [] 0 0) p28

abbrev pub p30 : History
p30 = done c1 Rename (sink ∷ done_sink ∷ []) 0 0 (Done [] 0 0) p29

abbrev pub p31 : History
p31 = done c1 Remove (mark ∷ []) 0 0 (Done [] 0 0) p30

abbrev pub some_step : Step
some_step = record { own = true; act = record { who = a1; call = Start; words = []; number = 0; max = 0; answer = Done [] 0 0 }; files = λ n. None; logs = no_logs }

abbrev pub mine : List Step
mine = since_start a1 g26
