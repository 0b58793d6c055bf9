-- Which streams are read behind the lines of an initial file.
use Rattle.std.proofs.Common.{◌≡◌, inl, inr, ◌⊎◌, ℕ, zero, suc, ◌+◌, Bool, true, false, ◌&&◌, ◌||◌, not, bytes_eq, if◌then◌else◌, List, [], ◌∷◌, ◌++◌, map, Option, Some, None, Result, Ok, Err, ap, sym, subst, ◌∙◌, refl, arith, true≢false}
use Rattle.std.specs.Prelude.{Contains, slice_get, slice_set}
use Rattle.std.specs.List.{list_any}
use Rattle.std.proofs.lemmas.Bool.{and_parts}
use Rattle.std.proofs.lemmas.Option.{same_Some, none-some}
use Rattle.chk_control.specs.declared.Class.{Class}
use Rattle.chk_control.specs.declared.commands.Command.TheVariants.{Blank, Add, Close, Help, List as ListAll, ReloadCollectors, Stop, StopAll, Shutdown, StopAgent}
use Rattle.chk_control.specs.Lines.{Meaning, meaning_of}
use Rattle.chk_site.specs.History.{History}
use Rattle.chk_world.specs.Checkpoints.{Line}
use Rattle.chk_world.proofs.Ends.{bytes_same}
use Rattle.chk_agent_adaptor.specs.declared.adaptor.Phase.TheVariants.{Live, Past}
use Rattle.chk_agent_adaptor.specs.Adaptors.{Adaptor, adaptor_of, is_past, revived}
use Rattle.chk_agent.specs.declared.answers.Reply.{Reply}
use Rattle.chk_agent.specs.Adds.{Found, stream_in, with_added, new_line, written}
use Rattle.chk_agent.specs.Commands.{Effect, plain_effect, IsCommand, plainly, refused_add, added}
use Rattle.chk_agent.specs.Settles.{saved_now}
use Rattle.chk_agent.specs.States.{State}
use Rattle.chk_agent.proofs.AddingNew.{at_end, before, get_more, last}
use Rattle.chk_agent.proofs.AddingPast.{at_set, here, other}
use Rattle.chk_agent.proofs.Soundness.{line_in}
use Rattle.chk_agent_run.specs.declared.faults.RunFault.{RunFault}
use Rattle.chk_agent_run.specs.Initial.{AddsStream, AreAdded, IsLineAdded, is_live_in, is_met, reads}
use Rattle.chk_agent_run.specs.Initial as lines
use Rattle.chk_cmd_drain.specs.Done.{HasLiveLine}
use Rattle.chk_cmd_drain.specs.Parts.{AreSteady, IsRead, SavedAreRead}
use Rattle.chk_agent.proofs.Alike.{not_past, loaded, found_is as found_from}

-- ---- one more stream

-- what an `add` of this stream makes of the adaptors
record MakesRead (kind path : List ℕ) (xs ys : List Adaptor) : Type 0 where
  steady : AreSteady xs → AreSteady ys
  kept : (k p : List ℕ) → IsRead k p xs → IsRead k p ys
  only : (k p : List ℕ) → IsRead k p ys → IsRead k p xs ⊎ ((kind ≡ k) × (path ≡ p))

makes_new : (kind path name : List ℕ) (class : Class) (start : ℕ) (after : Option (List ℕ))
    (xs : List Adaptor)
    → MakesRead kind path xs (xs ++ adaptor_of (new_line name class kind path start after) ∷ [])
makes_new kind path name class start after xs =
    let a = adaptor_of (new_line name class kind path start after) in
    record {
      steady = λ steady i x at lives. elim (at_end xs a i x at) [
        | before old ↦ steady i x old lives
        | last e new ↦ ap (λ (y : Adaptor). y.phase) (sym new)
      ];
      kept = λ k p r. (r.0, r.1, get_more xs (a ∷ []) r.0 r.1 r.2, r.3);
      only = λ k p r. elim (at_end xs a r.0 r.1 r.2) [
        | before old ↦ inl (r.0, r.1, old, r.3)
        | last e new ↦ inr (
          ap (λ (y : Adaptor). y.kind) new ∙ r.3.kind_is,
          ap (λ (y : Adaptor). y.path) new ∙ r.3.path_is,
        )
      ];
    }

-- a past one lives again, in its place
read_again : (name k p : List ℕ) (a : Adaptor) (xs : List Adaptor) (n : ℕ)
    → slice_get xs n ≡ Some a → IsRead k p xs → IsRead k p (slice_set xs n (revived name a))
read_again name k p a [] n there (i, x, at, r) = absurd (none-some a there)
read_again name k p a (y ∷ xs) zero there (zero, x, at, r) =
    let same = same_Some y a there in
    let is = sym same ∙ same_Some y x at in (
      0,
      revived name a,
      refl,
      record {
        lives = refl;
        kind_is = ap (λ (z : Adaptor). z.kind) is ∙ r.kind_is;
        path_is = ap (λ (z : Adaptor). z.path) is ∙ r.path_is;
      },
    )
read_again name k p a (y ∷ xs) zero there (suc i, x, at, r) = (suc i, x, at, r)
read_again name k p a (y ∷ xs) (suc n) there (zero, x, at, r) = (0, x, at, r)
read_again name k p a (y ∷ xs) (suc n) there (suc i, x, at, r) =
    let m = read_again name k p a xs n there (i, x, at, r) in (suc m.0, m.1, m.2, m.3)

makes_again : (kind path name : List ℕ) (xs : List Adaptor) (f : Found)
    → slice_get xs f.number ≡ Some f.adaptor → f.adaptor.kind ≡ kind → f.adaptor.path ≡ path
    → MakesRead kind path xs (slice_set xs f.number (revived name f.adaptor))
makes_again kind path name xs f there kind_is path_is =
    let a = revived name f.adaptor in
    record {
      steady = λ steady i x at lives. elim (at_set xs f.number a i x at) [
        | other old ↦ steady i x old lives
        | here e new ↦ ap (λ (y : Adaptor). y.phase) (sym new)
      ];
      kept = λ k p r. read_again name k p f.adaptor xs f.number there r;
      only = λ k p r. elim (at_set xs f.number a r.0 r.1 r.2) [
        | other old ↦ inl (r.0, r.1, old, r.3)
        | here e new ↦ inr (
          sym kind_is ∙ (ap (λ (y : Adaptor). y.kind) new ∙ r.3.kind_is),
          sym path_is ∙ (ap (λ (y : Adaptor). y.path) new ∙ r.3.path_is),
        )
      ];
    }

with_makes : (kind path name : List ℕ) (class : Class) (start : ℕ) (after : Option (List ℕ))
    (s : State) (o : Option Found) → stream_in kind path 0 s.adaptors ≡ o
    → MakesRead kind path s.adaptors
    (with_added s o (new_line name class kind path start after)).adaptors
with_makes kind path name class start after s None is =
    makes_new kind path name class start after s.adaptors
with_makes kind path name class start after s (Some f) is =
    let r = found_from kind path 0 s.adaptors f is in
    let number = r.1 in
    let same : r.0 ≡ f.number = omega (arith, number) in
    makes_again kind path name s.adaptors f (ap (slice_get s.adaptors) (sym same) ∙ r.2) r.3 r.4

-- ---- the lines

-- the saved lines are those of the adaptors
saved_read : (t : State) → SavedAreRead (saved_now t)
saved_read t l one live =
    let r = line_in t.adaptors t.delivery.table.committed l one in (
      r.0,
      r.1,
      r.2,
      record {
        lives = not_past (is_past r.1.phase) (sym (ap (λ (m : Line). m.live) r.3) ∙ live);
        kind_is = sym (ap (λ (m : Line). m.kind) r.3);
        path_is = sym (ap (λ (m : Line). m.path) r.3);
      },
    )

-- what lines that add these streams make of the agent
pub record Adds (asked : List ℕ → List ℕ → Type 0) (s t : State) : Type 0 where
  pub steady : AreSteady s.adaptors → AreSteady t.adaptors
  pub saved : SavedAreRead s → SavedAreRead t
  pub kept : (k p : List ℕ) → IsRead k p s.adaptors → IsRead k p t.adaptors
  pub only : (k p : List ℕ) → IsRead k p t.adaptors → IsRead k p s.adaptors ⊎ asked k p

adds_none : (asked : List ℕ → List ℕ → Type 0) (s : State) → Adds asked s s
adds_none asked s =
    record { steady = λ e. e; saved = λ e. e; kept = λ k p r. r; only = λ k p r. inl r }

-- a line that is blank, or adds a stream that is read
abbrev pub IsMet : List Adaptor → Meaning → Type 0
IsMet xs m =
    (m ≡ Ok Blank) ⊎ ((kind path : List ℕ) × AddsStream kind path m × IsRead kind path xs)

read_in : (kind path : List ℕ) (xs : List Adaptor) → is_live_in kind path xs ≡ true
    → IsRead kind path xs
read_in kind path [] is = absurd (true≢false (sym is))
read_in kind path (a ∷ xs) is = go (reads kind path a) refl is (read_in kind path xs)
  where
    go : (b : Bool) → reads kind path a ≡ b → (b || list_any (reads kind path) xs) ≡ true
        → (is_live_in kind path xs ≡ true → IsRead kind path xs) → IsRead kind path (a ∷ xs)
    go true is e rest =
        let p = and_parts (not (is_past a.phase)) (bytes_eq a.kind kind && bytes_eq a.path path) is
        in
        let q = and_parts (bytes_eq a.kind kind) (bytes_eq a.path path) p.1 in (
          0,
          a,
          refl,
          record {
            lives = not_past (is_past a.phase) p.0;
            kind_is = bytes_same a.kind kind q.0;
            path_is = bytes_same a.path path q.1;
          },
        )
    go false is e rest = let r = rest e in (suc r.0, r.1, r.2, r.3)

met_by : (s : State) (m : Meaning) → is_met s m ≡ true → IsMet s.adaptors m
met_by s (Ok Blank) is = inl refl
met_by s (Ok (Add name class kind path offset)) is = inr (
  kind,
  path,
  record { name = name; class = class; offset = offset; is = refl },
  read_in kind path s.adaptors is,
)
met_by s (Ok Close) is = absurd (true≢false (sym is))
met_by s (Ok Help) is = absurd (true≢false (sym is))
met_by s (Ok ListAll) is = absurd (true≢false (sym is))
met_by s (Ok ReloadCollectors) is = absurd (true≢false (sym is))
met_by s (Ok (Stop name)) is = absurd (true≢false (sym is))
met_by s (Ok StopAll) is = absurd (true≢false (sym is))
met_by s (Ok (Shutdown name)) is = absurd (true≢false (sym is))
met_by s (Ok StopAgent) is = absurd (true≢false (sym is))
met_by s (Err fault) is = absurd (true≢false (sym is))

-- a line that has something to do and is met then adds a stream
adds_it : (s t : State) (m : Meaning) → is_met s m ≡ false → is_met t m ≡ true
    → (e : Effect) → plain_effect m s ≡ Some e → ⊥
adds_it s t m todo met e plain = elim (met_by t m met) [
  | inl blank ↦ true≢false (sym (ap (is_met s) blank) ∙ todo)
  | inr adds ↦ none-some e (sym (ap (λ k. plain_effect k s) adds.2.is) ∙ plain)
]

command_adds : {line : List ℕ} {s t : State} {reply : Reply} {old new : Option History}
    → IsCommand line s (Ok reply) t old new → is_met s (meaning_of line) ≡ false
    → is_met t (meaning_of line) ≡ true
    → Adds (λ k p. AddsStream k p (meaning_of line)) s t
command_adds {line = line} {s = s} {t = t} (plainly e is) todo met =
    absurd (adds_it s t (meaning_of line) todo met e is)
command_adds {line = line} {s = s}
    (refused_add given class kind path name offset n means names says) todo met =
    adds_none (λ k p. AddsStream k p (meaning_of line)) s
command_adds {line = line} {s = s}
    (added given class kind path name offset means names none
    (written {t = t} after newest is writes))
    todo met =
    let m = with_makes kind path name class offset after s (stream_in kind path 0 s.adaptors) refl
    in
    let same = ap (λ (x : State). x.adaptors) is in
    record {
      steady = λ steady. subst AreSteady (sym same) (m.steady steady);
      saved = λ saved. saved_read t;
      kept = λ k p r. subst (IsRead k p) (sym same) (m.kept k p r);
      only = λ k p r. elim (m.only k p (subst (IsRead k p) same r)) [
        | inl old ↦ inl old
        | inr new ↦ inr (record {
          name = given;
          class = class;
          offset = offset;
          is = means ∙ (λ i. Ok (Add given class (new.0 i) (new.1 i) offset));
        })
      ];
    }

line_adds : {line : List ℕ} {s t : State} {old new : Option History}
    → IsLineAdded line s (Ok true) t old new
    → Adds (λ k p. AddsStream k p (meaning_of line)) s t × (is_met t (meaning_of line) ≡ true)
line_adds {line = line} {s = s} (lines.skipped met) =
    (adds_none (λ k p. AddsStream k p (meaning_of line)) s, met)
line_adds (lines.accepted reply todo adds did met) = (command_adds did todo met, met)

-- one of these lines adds the stream
abbrev pub AskedIn : List (List ℕ) → List ℕ → List ℕ → Type 0
AskedIn all kind path =
    (line : List ℕ) × Contains all line × AddsStream kind path (meaning_of line)

pub record AddsAll (all : List (List ℕ)) (s t : State) : Type 0 where
  pub adds : Adds (AskedIn all) s t
  pub met : (line : List ℕ) → Contains all line → IsMet t.adaptors (meaning_of line)

adds_then : (line : List ℕ) (all : List (List ℕ)) (s t u : State)
    → Adds (λ k p. AddsStream k p (meaning_of line)) s t
    → is_met t (meaning_of line) ≡ true → AddsAll all t u → AddsAll (line ∷ all) s u
adds_then line all s t u one is more = record {
  adds = record {
    steady = λ e. more.adds.steady (one.steady e);
    saved = λ e. more.adds.saved (one.saved e);
    kept = λ k p r. more.adds.kept k p (one.kept k p r);
    only = λ k p r. elim (more.adds.only k p r) [
      | inl old ↦ elim (one.only k p old) [
        | inl older ↦ inl older
        | inr new ↦ inr (line, (0, omega arith, refl), new)
      ]
      | inr later ↦ inr (later.0, behind later.0 later.1, later.2)
    ];
  };
  met = met;
}
  where
    behind : (x : List ℕ) → Contains all x → Contains (line ∷ all) x
    behind x (k, below, at) = (suc k, omega (arith, below), at)

    met : (x : List ℕ) → Contains (line ∷ all) x → IsMet u.adaptors (meaning_of x)
    met x (zero, below, at) =
        subst (λ (y : List ℕ). IsMet u.adaptors (meaning_of y)) at
        (elim (met_by t (meaning_of line) is) [
          | inl blank ↦ inl blank
          | inr r ↦ inr (r.0, r.1, r.2, more.adds.kept r.0 r.1 r.3)
        ])
    met x (suc k, below, at) = more.met x (k, omega (arith, below), at)

all_add : {at : ℕ} {all : List (List ℕ)} {s t : State} {result : Result (Unit {0}) RunFault}
    {old new : Option History}
    → AreAdded at all s result t old new → result ≡ Ok tt → AddsAll all s t
all_add {s = s} lines.all_added is = record {
  adds = adds_none (AskedIn []) s;
  met = λ line (k, below, at). absurd (let z : ⊥ = omega (arith, below) in z);
}
all_add {s = s} {t = u} (lines.on {line = line} {lines = all} {t = t} one rest) is =
    let a = line_adds one in adds_then line all s t u a.0 a.1 (all_add rest is)
all_add (lines.bad one) is = absurd (cc)
all_add (lines.failed fault one) is = absurd (cc)

pub all_added : {all : List (List ℕ)} {s t : State} {old new : Option History}
    → AreAdded 0 all s (Ok tt) t old new → AddsAll all s t
all_added script = all_add script refl

-- ---- an agent that has just started

-- the adaptor of a live line that was loaded
load_at : (ls : List Line) (l : Line) → Contains ls l → l.live ≡ true
    → IsRead l.kind l.path (map adaptor_of ls)
load_at [] l (k, below, at) live = absurd (let z : ⊥ = omega (arith, below) in z)
load_at (m ∷ ls) l (zero, below, at) live = (
  0,
  adaptor_of l,
  ap (λ (x : Line). Some (adaptor_of x)) at,
  record {
    lives = ap (λ b. is_past (if b then Live else Past)) live;
    kind_is = refl;
    path_is = refl;
  },
)
load_at (m ∷ ls) l (suc k, below, at) live =
    let r = load_at ls l (k, omega (arith, below), at) live in (suc r.0, r.1, r.2, r.3)

live_or_past : (b : Bool) → is_past (if b then Live else Past) ≡ false
    → (b ≡ true) × ((if b then Live else Past) ≡ Live)
live_or_past true e = (refl, refl)
live_or_past false e = absurd (true≢false e)

pub record StartsWith (s : State) : Type 0 where
  pub steady : AreSteady s.adaptors
  pub saved : SavedAreRead s
  pub only : (k p : List ℕ) → IsRead k p s.adaptors → HasLiveLine k p s.saved

pub starts_with : (s : State) → s.adaptors ≡ map adaptor_of s.saved → StartsWith s
starts_with s same = record {
  steady = λ i a at lives.
      let r = loaded s.saved i a (ap (λ xs. slice_get xs i) (sym same) ∙ at) in
      let phase = ap (λ (x : Adaptor). x.phase) r.2 in
      sym phase ∙ (live_or_past r.0.live (ap is_past phase ∙ lives)).1;
  saved = λ l one live. subst (IsRead l.kind l.path) (sym same) (load_at s.saved l one live);
  only = λ k p r.
      let d = loaded s.saved r.0 r.1 (ap (λ xs. slice_get xs r.0) (sym same) ∙ r.2) in
      record {
        line = d.0;
        one = d.1;
        live = (live_or_past d.0.live (ap (λ (x : Adaptor). is_past x.phase) d.2 ∙ r.3.lives)).0;
        kind_is = ap (λ (x : Adaptor). x.kind) d.2 ∙ r.3.kind_is;
        path_is = ap (λ (x : Adaptor). x.path) d.2 ∙ r.3.path_is;
      };
}

-- the stream of each live line is read
pub line_read : (s : State) → SavedAreRead s → (kind path : List ℕ)
    → HasLiveLine kind path s.saved → IsRead kind path s.adaptors
line_read s saved kind path h =
    let r = saved h.line h.one h.live in (
      r.0,
      r.1,
      r.2,
      record {
        lives = r.3.lives;
        kind_is = r.3.kind_is ∙ h.kind_is;
        path_is = r.3.path_is ∙ h.path_is;
      },
    )
