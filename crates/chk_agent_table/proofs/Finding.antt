-- What the tables find of the adaptors, and what an adaptor more makes of them.
use Rattle.std.proofs.Common.{◌≡◌, ℕ, suc, ◌+◌, ◌<◌, ◌≤◌, min, Bool, true, false, not, cond}
use Rattle.std.proofs.Common.{if◌then◌else◌, List, [], ◌∷◌, ◌++◌, length, map, bytes_eq, Option}
use Rattle.std.proofs.Common.{Some, None, refl, sym, ap, subst, ◌∙◌, arith}
use Rattle.std.specs.Prelude.{IsTrue, position, slice_get, slice_set}
use Rattle.std.specs.String.{string_bytes}
use Rattle.std.specs.HashMap.{get_by_text}
use Rattle.std.specs.Map.{keys_of, values_of, lookup}
use Rattle.std.proofs.lemmas.List.{map-append}
use Rattle.std.proofs.lemmas.Option.{slice_get_within}
use Rattle.indexmap.specs.IndexMap.{keys, values, spare, set_value_at}
use Rattle.chk_bytes.specs.Words.{is_word}
use Rattle.chk_agent_adaptor.specs.Adaptors.{Adaptor, is_past, revived}
use Rattle.chk_agent_table.specs.declared.adaptors.Adaptors.TheInside.{Inside}
use Rattle.chk_agent_table.specs.Adaptors.{Held, is_of, is_named, stream_key}
use Rattle.chk_agent_table.specs.Fields.{IsSound, IsSoundInside, held_view, key_of, noted, without}
use Rattle.chk_agent_table.proofs.Places.{fails, place_in_image, keys_set, values_set}
use Rattle.chk_agent_table.proofs.Tables.{added, lives_again, named_live, named_none, named_past}
use Rattle.chk_agent_table.proofs.Tables.{stream_place}

-- nothing is looked up where no key passes
none_looked_up : {K X : Type 0} (test : K → Bool) (es : List (K × X))
    → ((n : ℕ) (k : K) → slice_get (keys_of es) n ≡ Some k → test k ≡ false) → lookup test es ≡ None
none_looked_up test [] none = refl
none_looked_up test (e ∷ es) none =
    ap (λ b. cond b (Some e.1) (lookup test es)) (none 0 e.0 refl)
    ∙ none_looked_up test es (λ n k at. none (suc n) k at)

module _ (i : Inside) (h : Held) (is : held_view i ≡ h) (s : IsSoundInside i) where
  -- a stream's key stands where its adaptor does
  pub find_is : (kind path key : List ℕ) → IsTrue (is_word kind) → key ≡ stream_key kind path
      → position (λ k. bytes_eq key (string_bytes k)) (keys i.streams)
      ≡ position (is_of kind path) h.items
  find_is kind path key word made =
      place_in_image string_bytes (bytes_eq key) (keys i.streams)
      ∙ ap (λ key. position (bytes_eq key) (map string_bytes (keys i.streams))) made
      ∙ stream_place (map string_bytes (keys i.streams)) (values i.streams)
      (get_by_text i.names) s kind path word
      ∙ ap (λ (h : Held). position (is_of kind path) h.items) is

  -- and where it has none, it isn't there
  pub not_there : (kind path key : List ℕ) → IsTrue (is_word kind) → key ≡ stream_key kind path
      → position (is_of kind path) h.items ≡ None → get_by_text i.streams key ≡ None
  not_there kind path key word made none =
      none_looked_up (λ k. bytes_eq key (string_bytes k)) i.streams.entries
      (fails (λ k. bytes_eq key (string_bytes k)) (keys i.streams)
      (find_is kind path key word made ∙ none))

  -- nothing under a name
  pub none_named : (name : List ℕ) → get_by_text i.names name ≡ None
      → position (is_named name) h.items ≡ None
  none_named name e =
      ap (λ (h : Held). position (is_named name) h.items) (sym is)
      ∙ named_none (map string_bytes (keys i.streams)) (values i.streams)
      (get_by_text i.names) s name e

  -- a number under a name
  pub number_below : (name : List ℕ) (n : ℕ) → get_by_text i.names name ≡ Some n
      → n < length h.items
  number_below name n e =
      let own = s.own name n e in
      slice_get_within h.items n own.0 (ap (λ (h : Held). slice_get h.items n) (sym is) ∙ own.1)

  pub named_by : (name : List ℕ) (n : ℕ) (r : Option ℕ) → get_by_text i.names name ≡ Some n
      → ((a : Adaptor) → slice_get h.items n ≡ Some a → r
      ≡ (if is_past a.phase then None else Some n))
      → r ≡ position (is_named name) h.items
  named_by name n r e live =
      let own = s.own name n e in
      live own.0 (ap (λ (h : Held). slice_get h.items n) (sym is) ∙ own.1)
      ∙ go (is_past own.0.phase) refl
      ∙ ap (λ (h : Held). position (is_named name) h.items) is
    where
      go : (b : Bool) → is_past (s.own name n e).0.phase ≡ b
          → (if b then None else Some n) ≡ position (is_named name) (values i.streams)
      go true past =
          sym (named_past (map string_bytes (keys i.streams)) (values i.streams)
          (get_by_text i.names) s name n
          (s.own name n e).0 e (s.own name n e).1 past)
      go false past =
          sym (named_live (map string_bytes (keys i.streams)) (values i.streams)
          (get_by_text i.names) s name n
          (s.own name n e).0 e (s.own name n e).1 past)

-- one adaptor more
pub adds : {K : Type 0} (spell : K → List ℕ) (es more : List (K × Adaptor))
    (numbers now : List ℕ → Option ℕ) (key : K)
    (name : List ℕ) (a : Adaptor) (number : ℕ) (live : Bool)
    → IsSound (map spell (keys_of es)) (values_of es) numbers
    → more ≡ es ++ (key, a) ∷ [] → spell key ≡ key_of a → name ≡ a.name → number
    ≡ length (values_of es)
    → live ≡ not (is_past a.phase) → length (values_of es) < 10000 → IsTrue (is_word a.kind)
    → (is_past a.phase ≡ false → position (is_named a.name) (values_of es) ≡ None)
    → ((text : List ℕ) → now text ≡ noted live name number numbers text)
    → IsSound (map spell (keys_of more)) (values_of more) now
adds spell es more numbers now key name a number live s made spelled named counted lives few word
    free found =
    let found' : (text : List ℕ) → now text
    ≡ noted (not (is_past a.phase)) a.name (length (values_of es)) numbers text =
    λ text. found text ∙ ap (λ l. noted l name number numbers text) lives
    ∙ ap (λ n. noted (not (is_past a.phase)) n number numbers text) named
    ∙ ap (λ n. noted (not (is_past a.phase)) a.name n numbers text) counted in
    let ks : map spell (keys_of more) ≡ map spell (keys_of es) ++ key_of a ∷ [] =
    ap (λ es. map spell (keys_of es)) made
    ∙ ap (map spell) (map-append (λ e. e.0) es ((key, a) ∷ []))
    ∙ map-append spell (keys_of es) (key ∷ [])
    ∙ ap (λ k. map spell (keys_of es) ++ k ∷ []) spelled in
    let xs : values_of more ≡ values_of es ++ a ∷ [] =
    ap values_of made ∙ map-append (λ e. e.1) es ((key, a) ∷ []) in
    subst (λ ks. IsSound ks (values_of more) now) (sym ks)
    (subst (λ xs. IsSound (map spell (keys_of es) ++ key_of a ∷ []) xs now) (sym xs)
    (added (map spell (keys_of es)) (values_of es) numbers s a now few word free found'))

-- one lives again, under a new name
pub revives : {K : Type 0} (spell : K → List ℕ) (es : List (K × Adaptor))
    (numbers now : List ℕ → Option ℕ) (n : ℕ)
    (name : List ℕ) (old new : Adaptor) → IsSound (map spell (keys_of es)) (values_of es) numbers
    → slice_get (values_of es) n ≡ Some old → new ≡ revived name old
    → position (is_named name) (values_of es) ≡ None
    → ((text : List ℕ) → now text ≡ noted true name n (λ t. without old.name n t (numbers t)) text)
    → IsSound (map spell (keys_of (set_value_at es n new))) (values_of (set_value_at es n new)) now
revives spell es numbers now n name old new s at made free found =
    subst (λ ks. IsSound ks (values_of (set_value_at es n new)) now) (sym (keys_set spell es n new))
    (subst (λ xs. IsSound (map spell (keys_of es)) xs now)
    (sym (values_set es n new ∙ ap (λ a. slice_set (values_of es) n a) made))
    (lives_again (map spell (keys_of es)) (values_of es) numbers s n name old at now free found))

-- ---- room

module _ (i : Inside) (h : Held) (is : held_view i ≡ h) (some : 0 < h.spare) where
  pub stream_room : 0 < spare i.streams
  stream_room = let same = ap (λ (h : Held). h.spare) is in omega (arith, same, some)

  pub name_room : 0 < spare i.names
  name_room = let same = ap (λ (h : Held). h.spare) is in omega (arith, same, some)

-- at most one place is used
pub less_by_one : (s n s' n' h : ℕ) → min s n ≡ h → s ≤ s' + 1 → n ≤ n' + 1 → h ≤ min s' n' + 1
less_by_one s n s' n' h is one other = omega (arith, is, one, other)
