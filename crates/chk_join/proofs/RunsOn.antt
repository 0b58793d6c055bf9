-- Heads are gone through, one after the other.
use Rattle.std.proofs.Common.{◌≡◌, ℕ, ◌+◌, ◌-◌, ◌<◌, ◌≤◌, Bool, true, false, List, [], ◌∷◌, ◌++◌}
use Rattle.std.proofs.Common.{length, map, take, drop, refl, ap, sym, subst, ◌∙◌, arith, get_or}
use Rattle.std.proofs.Common.{if◌then◌else◌}
use Rattle.std.proofs.lemmas.List.{take_more, length-drop, get_or-drop, map-append}
use Rattle.chk_world.specs.Books.{End}
use Rattle.chk_world.proofs.NameTests.{streams_same}
use Rattle.chk_record_index.specs.Heads.{Head}
use Rattle.chk_record_index.specs.Order.{no_head}
use Rattle.chk_book.specs.Views.{end_view}
use Rattle.chk_book.specs.declared.lists.End.{End as EndStruct}
use Rattle.chk_record_reader.specs.Courses.{is_head_of}
use Rattle.chk_join_sources.specs.declared.gathering.Side.{Side}
use Rattle.chk_join_sources.specs.Blocks.{head_in}
use Rattle.chk_join_sources.specs.declared.plan.Choice.{Choice}
use Rattle.chk_join_sources.specs.Standing.{heads_between, chosen_heads}
use Rattle.chk_join.specs.Runs.{HeadsRun, ChosenRun}

run_more : (e : End) (from : ℕ) (hs : List Head) (to : ℕ) (h : Head) → HeadsRun e from hs to
    → h.key.stream ≡ e.stream → h.key.start ≡ e.start → h.begin ≡ to → HeadsRun e from (hs ++ h ∷ []) h.key.seq
run_more e from [] to h run stream start begin = (stream, (start, (begin ∙ run, refl)))
run_more e from (k ∷ hs) to h run stream start begin =
    (run.0, (run.1.0, (run.1.1.0, run_more e k.key.seq hs to h run.1.1.1 stream start begin)))

-- none yet
pub none_run : (e : End) (hs : List Head) (first : ℕ) → HeadsRun e e.start (take (first - first) (drop first hs)) e.start
none_run e hs first =
    subst (λ (n : ℕ). HeadsRun e e.start (take n (drop first hs)) e.start)
    (let z : 0 ≡ first - first = omega arith in z) refl

-- one more
pub block_more : (e : End) (hs : List Head) (first index to : ℕ) (h : Head) → first ≤ index → index < length hs
    → h ≡ head_in hs index → is_head_of e.stream h ≡ true → h.key.start ≡ e.start → h.begin ≡ to
    → HeadsRun e e.start (take (index - first) (drop first hs)) to
    → HeadsRun e e.start (take (index + 1 - first) (drop first hs)) h.key.seq
block_more e hs first index to h low high is of start begin run =
    let n : ℕ = index - first in
    let size = length-drop first hs in
    let less : n < length (drop first hs) = omega (arith, size, low, high) in
    let here : get_or (drop first hs) n no_head ≡ h =
    get_or-drop first hs n no_head
    ∙ (ap (λ (i : ℕ). get_or hs i no_head) (let z : first + n ≡ index = omega (arith, low) in z) ∙ sym is) in
    subst (λ l. HeadsRun e e.start l h.key.seq)
    (sym (ap (λ (m : ℕ). take m (drop first hs)) (let z : index + 1 - first ≡ n + 1 = omega (arith, low) in z)
    ∙ (take_more (drop first hs) n no_head less ∙ ap (λ k. take n (drop first hs) ++ k ∷ []) here)))
    (run_more e e.start (take n (drop first hs)) to h run (sym (streams_same e.stream h.key.stream of)) start begin)

-- all of them
pub block_all : (e : End) (hs : List Head) (first index end to : ℕ) → end ≤ index → index ≤ end → to ≡ e.end
    → HeadsRun e e.start (take (index - first) (drop first hs)) to
    → HeadsRun e e.start (take (end - first) (drop first hs)) e.end
block_all e hs first index end to past high is run =
    subst (λ (n : ℕ). HeadsRun e e.start (take (n - first) (drop first hs)) e.end)
    (let z : index ≡ end = omega (arith, past, high) in z)
    (subst (HeadsRun e e.start (take (index - first) (drop first hs))) is run)

-- by the side of a choice
pub choice_right : (l r : Side) (c : Choice) (e : End) → c.from_right ≡ true
    → HeadsRun e e.start (heads_between r c.block.first c.block.end) e.end
    → HeadsRun e e.start (chosen_heads l r c) e.end
choice_right l r c e is run =
    subst (λ (t : Bool). HeadsRun e e.start (if t then heads_between r c.block.first c.block.end
    else heads_between l c.block.first c.block.end) e.end) (sym is) run

pub choice_left : (l r : Side) (c : Choice) (e : End) → c.from_right ≡ false
    → HeadsRun e e.start (heads_between l c.block.first c.block.end) e.end
    → HeadsRun e e.start (chosen_heads l r c) e.end
choice_left l r c e is run =
    subst (λ (t : Bool). HeadsRun e e.start (if t then heads_between r c.block.first c.block.end
    else heads_between l c.block.first c.block.end) e.end) (sym is) run

-- one choice more
chosen_snoc : (l r : Side) (es : List End) (cs : List Choice) (e : End) (c : Choice) → ChosenRun l r es cs
    → HeadsRun e e.start (chosen_heads l r c) e.end → ChosenRun l r (es ++ e ∷ []) (cs ++ c ∷ [])
chosen_snoc l r [] [] e c run one = (one, tt)
chosen_snoc l r [] (d ∷ cs) e c run one = absurd run
chosen_snoc l r (f ∷ es) [] e c run one = absurd run
chosen_snoc l r (f ∷ es) (d ∷ cs) e c run one = (run.0, chosen_snoc l r es cs e c run.1 one)

pub chosen_more : (l r : Side) (es : List EndStruct) (cs : List Choice) (i : ℕ) (e : EndStruct) (d : EndStruct) (c : Choice)
    → i < length es → i < length cs → e ≡ get_or es i d → HeadsRun (end_view e) e.start (chosen_heads l r (get_or cs i c)) e.end
    → ChosenRun l r (map end_view (take i es)) (take i cs)
    → ChosenRun l r (map end_view (take (i + 1) es)) (take (i + 1) cs)
chosen_more l r es cs i e d c low high is one run =
    subst (λ (x : List End). ChosenRun l r x (take (i + 1) cs))
    (sym (ap (map end_view) (take_more es i d low ∙ ap (λ k. take i es ++ k ∷ []) (sym is))
    ∙ map-append end_view (take i es) (e ∷ [])))
    (subst (ChosenRun l r (map end_view (take i es) ++ end_view e ∷ [])) (sym (take_more cs i c high))
    (chosen_snoc l r (map end_view (take i es)) (take i cs) (end_view e) (get_or cs i c) run one))
