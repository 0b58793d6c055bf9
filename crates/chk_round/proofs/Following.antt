-- Which logs a round reads, from their adding to the end.
use Rattle.std.proofs.Common.{◌≡◌, ◌≢◌, inl, inr, ◌⊎◌, ℕ, zero, suc, ◌+◌, Bool, true, false, ◌&&◌, not, List, [], ◌∷◌, ◌++◌, length, bytes_eq, Option, Some, None, Ok, ap, sym, subst, ◌∙◌, refl, arith, if◌then◌else◌}
use Rattle.std.specs.Prelude.{Contains, slice_get, slice_set, slice_index}
use Rattle.std.proofs.lemmas.Option.{same_Some, none-some}
use Rattle.chk_control.specs.declared.Class.{Class}
use Rattle.chk_seqfile.proofs.FieldLemmas.{same_bytes}
use Rattle.chk_site.specs.History.{History}
use Rattle.chk_world.specs.Checkpoints.{Line}
use Rattle.chk_tail.specs.declared.step.Step.{Step}
use Rattle.chk_tail.specs.declared.step.Step.TheVariants.{Bytes, AtEnd as gave_none, Shrank as is_short}
use Rattle.chk_agent_adaptor.specs.declared.adaptor.Phase.TheVariants.{Live}
use Rattle.chk_agent_adaptor.specs.Adaptors.{Adaptor, adaptor_of, is_past, line_at, revived}
use Rattle.chk_agent_adaptor.specs.Steps.{phase_after, stepped}
use Rattle.chk_agent.specs.declared.answers.Added.{Added}
use Rattle.chk_agent.specs.declared.answers.Stepped.{Stepped}
use Rattle.chk_agent.specs.declared.answers.Stepped.TheVariants.{Shrank}
use Rattle.chk_agent.specs.Adds.{Found, IsAdded, MayTake, stream_in, with_added}
use Rattle.chk_agent.specs.Adds as adds
use Rattle.chk_agent.specs.Fills.{IsOneStepped, after_step}
use Rattle.chk_agent.specs.Fills as fill
use Rattle.chk_agent.specs.Settles.{saved_now as adds_saved}
use Rattle.chk_agent.specs.States.{State, lines_at, lines_of}
use Rattle.chk_agent.proofs.AddingNew.{get_more}
use Rattle.chk_agent.proofs.AddingPast.{set_size}
use Rattle.chk_agent.proofs.Soundness.{in_lines, line_in}
use Rattle.chk_agent.proofs.SteppingSound.{set_at}
use Rattle.chk_agent_drain.specs.Parts.{AdaptorsBut}
use Rattle.chk_agent_drain.proofs.Steps.{step_leaves, put_there}
use Rattle.chk_round.specs.Adding.{AddsLogs}
use Rattle.chk_round.specs.Adding as adding
use Rattle.chk_round.specs.Following.{Follows, HasLiveLine, HasNoRoom, IsFollowed, IsFullWithout, KeepsLogs}
use Rattle.chk_round.specs.Rounds.{AllSteady}
use Rattle.chk_round.proofs.Gathers.{added_steady}
use Rattle.chk_round.proofs.Sent.{other_at}
use Rattle.chk_agent.proofs.Alike.{found_is}

-- ---- the adaptors are kept

pub keeps_all : (a : State) → KeepsLogs a a
keeps_all a kind path = ((λ f. f), (λ h. h))

pub keeps_then : (a b c : State) → KeepsLogs a b → KeepsLogs b c → KeepsLogs a c
keeps_then a b c first second kind path = (
  (λ f. (second kind path).0 ((first kind path).0 f)),
  (λ h. (second kind path).1 ((first kind path).1 h)),
)

-- what was so of a log is so still
pub follows_on : (a b : State) → KeepsLogs a b → (kind path : List ℕ) → Follows kind path a
    → Follows kind path b
follows_on a b keeps kind path (inl f) = inl ((keeps kind path).0 f)
follows_on a b keeps kind path (inr h) = inr ((keeps kind path).1 h)

pub keeps_same : (a b : State) → b.adaptors ≡ a.adaptors → KeepsLogs a b
keeps_same a b same kind path = (
  (λ f. record {
    place = f.place;
    adaptor = f.adaptor;
    at = ap (λ xs. slice_get xs f.place) same ∙ f.at;
    kind_is = f.kind_is;
    path_is = f.path_is;
    live = f.live;
  }),
  (λ h. record {
    full = ap length same ∙ h.full;
    none = λ i x at. h.none i x (ap (λ xs. slice_get xs i) (sym same) ∙ at);
  }),
)

-- one adaptor changes, and stays live where it was
keeps_but : (n : ℕ) (a b : State) → AdaptorsBut n a b
    → ((x : Adaptor) → slice_get a.adaptors n ≡ Some x → x.phase ≡ Live
    → (y : Adaptor) × (slice_get b.adaptors n ≡ Some y) × (y.phase ≡ Live))
    → KeepsLogs a b
keeps_but n a b but live kind path = (
  (λ f. followed f (is_here f.place)),
  (λ h. record {
    full = but.size ∙ h.full;
    none = λ i x at k p. roomless h i x at k p (is_here i);
  }),
)
  where
    is_here : (k : ℕ) → (k ≡ n) ⊎ (k ≢ n)
    is_here k = grind arith

    followed : (f : IsFollowed kind path a) → (f.place ≡ n) ⊎ (f.place ≢ n)
        → IsFollowed kind path b
    followed f (inr apart) = record {
      place = f.place;
      adaptor = f.adaptor;
      at = other_at n a b but f.place f.adaptor apart f.at;
      kind_is = f.kind_is;
      path_is = f.path_is;
      live = f.live;
    }
    followed f (inl here) =
        let at = ap (λ k. slice_get a.adaptors k) (sym here) ∙ f.at in
        let y = live f.adaptor at f.live in
        let m = but.here y.0 y.1 in
        let same = same_Some m.0 f.adaptor (sym m.1 ∙ at) in
        record {
          place = n;
          adaptor = y.0;
          at = y.1;
          kind_is = m.2 ∙ (ap (λ (x : Adaptor). x.kind) same ∙ f.kind_is);
          path_is = m.3 ∙ (ap (λ (x : Adaptor). x.path) same ∙ f.path_is);
          live = y.2;
        }

    roomless : HasNoRoom kind path a → (i : ℕ) (x : Adaptor) → slice_get b.adaptors i ≡ Some x
        → x.kind ≡ kind → x.path ≡ path → (i ≡ n) ⊎ (i ≢ n) → ⊥
    roomless h i x at k p (inr apart) = h.none i x (but.others i x apart at) k p
    roomless h i x at k p (inl here) =
        let m = but.here x (ap (λ j. slice_get b.adaptors j) (sym here) ∙ at) in
        h.none n m.0 m.1 (sym m.2 ∙ k) (sym m.3 ∙ p)

-- ---- a step

live_after : {i : ℕ} {a : Adaptor} {s t : State} {given : Stepped} {old new : Option History}
    → IsOneStepped i a s (Ok given) t old new → ((had size : ℕ) → given ≢ Shrank had size)
    → slice_get s.adaptors i ≡ Some a → a.phase ≡ Live
    → (y : Adaptor) × (slice_get t.adaptors i ≡ Some y) × (y.phase ≡ Live)
live_after {a = a} (fill.held is) long there live = (a, there, live)
live_after {i = i} {a = a} {s = s} (fill.made b step held is) long there live =
    (b, put_there s.adaptors i a b there, go step is.is long)
  where
    go : (step : Step) → b ≡ stepped is.marks is.next (Ok step) a
        → ((had size : ℕ) → fill.step_answer step ≢ Shrank had size) → b.phase ≡ Live
    go (Bytes bytes end) same long = ap (λ (x : Adaptor). x.phase) same ∙ live
    go gave_none same long = ap (λ (x : Adaptor). x.phase) same ∙ ap (phase_after gave_none is.next) live
    go (is_short had size) same long = absurd (long had size refl)

pub step_keeps_logs : {i : ℕ} {a : Adaptor} {s t : State} {given : Stepped} {old new : Option History}
    → IsOneStepped i a s (Ok given) t old new → slice_get s.adaptors i ≡ Some a
    → ((had size : ℕ) → given ≢ Shrank had size) → KeepsLogs s t
step_keeps_logs {i = i} {a = a} {s = s} {t = t} is there long =
    keeps_but i s t (step_leaves is there).adaptors
    (λ x at live. live_after is long there (ap (λ (k : Adaptor). k.phase) (same_Some a x (sym there ∙ at)) ∙ live))

-- ---- one more log

none_in : (kind path : List ℕ) (n : ℕ) (xs : List Adaptor) → stream_in kind path n xs ≡ None
    → (i : ℕ) (x : Adaptor) → slice_get xs i ≡ Some x → x.kind ≡ kind → x.path ≡ path → ⊥
none_in kind path n [] e i x at k p = none-some x at
none_in kind path n (a ∷ xs) e i x at k p =
    go (bytes_eq a.kind kind && bytes_eq a.path path) refl e i at (none_in kind path (n + 1) xs)
  where
    here : (b : Bool) → (bytes_eq a.kind kind && bytes_eq a.path path) ≡ b → a ≡ x → b ≡ true
    here b is same =
        sym is ∙ (ap (λ c. c && bytes_eq a.path path)
        (same_bytes a.kind kind (ap (λ (y : Adaptor). y.kind) same ∙ k))
        ∙ same_bytes a.path path (ap (λ (y : Adaptor). y.path) same ∙ p))

    go : (b : Bool) → (bytes_eq a.kind kind && bytes_eq a.path path) ≡ b
        → (if b then Some (record { number = n; adaptor = a }) else stream_in kind path (n + 1) xs) ≡ None
        → (i : ℕ) → slice_get (a ∷ xs) i ≡ Some x
        → (stream_in kind path (n + 1) xs ≡ None → (i : ℕ) (x : Adaptor) → slice_get xs i ≡ Some x
        → x.kind ≡ kind → x.path ≡ path → ⊥) → ⊥
    go true is e i at rest = none-some (record { number = n; adaptor = a }) (sym e)
    go false is e zero at rest =
        let no : false ≡ true = here false is (same_Some a x at) in cc
    go false is e (suc i) at rest = rest e i x at k p

pub found_here : (kind path : List ℕ) (xs : List Adaptor) (f : Found) → stream_in kind path 0 xs ≡ Some f
    → (slice_get xs f.number ≡ Some f.adaptor) × (f.adaptor.kind ≡ kind) × (f.adaptor.path ≡ path)
found_here kind path xs f e =
    let r = found_is kind path 0 xs f e in
    let number = r.1 in
    let same : r.0 ≡ f.number = omega (arith, number) in
    (ap (λ k. slice_get xs k) (sym same) ∙ r.2, r.3, r.4)

with_more : (s : State) (l : Line) → length s.adaptors ≢ 10000 → KeepsLogs s (with_added s None l)
with_more s l room kind path = (
  (λ f. record {
    place = f.place;
    adaptor = f.adaptor;
    at = get_more s.adaptors (adaptor_of l ∷ []) f.place f.adaptor f.at;
    kind_is = f.kind_is;
    path_is = f.path_is;
    live = f.live;
  }),
  (λ h. absurd (room h.full)),
)

with_again : (s : State) (f : Found) (l : Line) → slice_get s.adaptors f.number ≡ Some f.adaptor
    → KeepsLogs s (with_added s (Some f) l)
with_again s f l there =
    keeps_but f.number s (with_added s (Some f) l) (record {
      size = set_size s.adaptors f.number (revived l.name f.adaptor);
      others = λ k c other at. elim (set_at s.adaptors f.number k (revived l.name f.adaptor) c at) [
        | inl h ↦ absurd (other h.0)
        | inr h ↦ h.1
      ];
      here = λ c at. (
        f.adaptor,
        there,
        ap (λ (x : Adaptor). x.kind) (is_put c at),
        ap (λ (x : Adaptor). x.path) (is_put c at),
      );
    })
    (λ x at live. (
      revived l.name f.adaptor,
      put_there s.adaptors f.number f.adaptor (revived l.name f.adaptor) there,
      refl,
    ))
  where
    is_put : (c : Adaptor) → slice_get (slice_set s.adaptors f.number (revived l.name f.adaptor)) f.number ≡ Some c
        → c ≡ revived l.name f.adaptor
    is_put c at =
        sym (same_Some (revived l.name f.adaptor) c
        (sym (put_there s.adaptors f.number f.adaptor (revived l.name f.adaptor) there) ∙ at))

-- all that was so stays
one_keeps : {class : Class} {kind path : List ℕ} {s t : State} {added : Added} {old new : Option History}
    → IsAdded class kind path s (Ok added) t old new → KeepsLogs s t
one_keeps {s = s} (adds.live found is past) = keeps_same s s refl
one_keeps {s = s} (adds.too_many is full) = keeps_same s s refl
one_keeps {class = class} {kind = kind} {path = path} {s = s} (adds.new name found is may named (adds.written {t = t} after newest same writes)) =
    keeps_then s t (adds_saved t) (subst (KeepsLogs s) (sym same) (go found is may))
    (keeps_same t (adds_saved t) refl)
  where
    go : (found : Option Found) → stream_in kind path 0 s.adaptors ≡ found → MayTake found (length s.adaptors)
        → KeepsLogs s (with_added s found (adds.new_line name (adds.class_for class found) kind path 0 after))
    go None is may =
        with_more s (adds.new_line name class kind path 0 after) (λ full. let z : ⊥ = omega (arith, may, full) in z)
    go (Some f) is may =
        with_again s f (adds.new_line name (adds.class_for class (Some f)) kind path 0 after)
        (found_here kind path s.adaptors f is).0

last_one : {X : Type 0} (xs : List X) (x : X) → slice_get (xs ++ x ∷ []) (length xs) ≡ Some x
last_one [] x = refl
last_one (y ∷ xs) x = last_one xs x

-- the log itself
one_follows : {class : Class} {kind path : List ℕ} {s t : State} {added : Added} {old new : Option History}
    → AllSteady s → IsAdded class kind path s (Ok added) t old new → Follows kind path t
one_follows {kind = kind} {path = path} {s = s} steady (adds.live found is past) =
    let r = found_here kind path s.adaptors found is in
    inl (record {
      place = found.number;
      adaptor = found.adaptor;
      at = r.0;
      kind_is = r.1;
      path_is = r.2;
      live = steady found.number found.adaptor r.0 past;
    })
one_follows {kind = kind} {path = path} {s = s} steady (adds.too_many is full) =
    inr (record { full = full; none = none_in kind path 0 s.adaptors is })
one_follows {class = class} {kind = kind} {path = path} {s = s} steady (adds.new name found is may named (adds.written {t = t} after newest same writes)) =
    follows_on t (adds_saved t) (keeps_same t (adds_saved t) refl) kind path
    (subst (Follows kind path) (sym same) (go found is))
  where
    go : (found : Option Found) → stream_in kind path 0 s.adaptors ≡ found
        → Follows kind path (with_added s found (adds.new_line name (adds.class_for class found) kind path 0 after))
    go None is = inl (record {
      place = length s.adaptors;
      adaptor = adaptor_of (adds.new_line name class kind path 0 after);
      at = last_one s.adaptors (adaptor_of (adds.new_line name class kind path 0 after));
      kind_is = refl;
      path_is = refl;
      live = refl;
    })
    go (Some f) is =
        let r = found_here kind path s.adaptors f is in
        inl (record {
          place = f.number;
          adaptor = revived name f.adaptor;
          at = put_there s.adaptors f.number f.adaptor (revived name f.adaptor) r.0;
          kind_is = r.1;
          path_is = r.2;
          live = refl;
        })

pub logs_keep : {class : Class} {kind : List ℕ} {logs : List (List ℕ)} {s t : State} {old new : Option History}
    → AddsLogs class kind logs s (Ok tt) t old new → KeepsLogs s t
logs_keep {s = s} adding.all = keeps_all s
logs_keep {s = s} {t = u} (adding.one {t = t} added is rest) =
    keeps_then s t u (one_keeps is) (logs_keep rest)

-- each of the logs that were added
pub logs_follow : {class : Class} {kind : List ℕ} {logs : List (List ℕ)} {s t : State} {old new : Option History}
    → AllSteady s → AddsLogs class kind logs s (Ok tt) t old new → (log : List ℕ) → Contains logs log → Follows kind log t
logs_follow steady adding.all log (k, below, at) = absurd (let z : ⊥ = omega (arith, below) in z)
logs_follow {kind = kind} {t = t} steady (adding.one added is rest) log (zero, below, at) =
    subst (λ p. Follows kind p t) at
    (follows_on _ t (logs_keep rest) kind _ (one_follows steady is))
logs_follow steady (adding.one added is rest) log (suc k, below, at) =
    logs_follow ((added_steady is).steady steady) rest log (k, omega (arith, below), at)

-- ---- the lines

lines_size : (xs : List Adaptor) (ends : List ℕ) → length (lines_at xs ends) ≡ length xs
lines_size [] ends = refl
lines_size (a ∷ xs) [] = ap suc (lines_size xs [])
lines_size (a ∷ xs) (o ∷ ends) = ap suc (lines_size xs ends)

pub has_line : (kind path : List ℕ) (a : State) → Follows kind path a
    → HasLiveLine kind path (lines_of a) ⊎ IsFullWithout kind path (lines_of a)
has_line kind path a (inl f) = inl (record {
  line = line_at (slice_index a.delivery.table.committed f.place) f.adaptor;
  one = in_lines a.adaptors a.delivery.table.committed f.place f.adaptor f.at;
  live = ap (λ p. not (is_past p)) f.live;
  kind_is = f.kind_is;
  path_is = f.path_is;
})
has_line kind path a (inr h) = inr (record {
  full = lines_size a.adaptors a.delivery.table.committed ∙ h.full;
  none = λ l one k p.
      let r = line_in a.adaptors a.delivery.table.committed l one in
      h.none r.0 r.1 r.2 (sym (ap (λ (m : Line). m.kind) r.3) ∙ k) (sym (ap (λ (m : Line). m.path) r.3) ∙ p);
})
