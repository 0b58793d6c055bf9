-- The tables of adaptors: what they find, and what each change leaves of them.
use Rattle.std.proofs.Common.{◌≡◌, ℕ, ◌+◌, ◌<◌, ◌≤◌, ◌&&◌, ◌==◌, Bool, true, false, not, cond}
use Rattle.std.proofs.Common.{if◌then◌else◌, List, [], ◌∷◌, ◌++◌, length, bytes_eq, Option, Some}
use Rattle.std.proofs.Common.{None, refl, sym, ap, ap₂, subst, ◌∙◌, inl, inr, ◌⊎◌, arith}
use Rattle.std.proofs.lemmas.Bool.{false≢true}
use Rattle.std.specs.Prelude.{IsTrue, position, slice_get, slice_set}
use Rattle.std.proofs.lemmas.List.{length-set, length-append, map-append}
use Rattle.std.proofs.lemmas.Option.{same_Some, none-some}
use Rattle.std.proofs.lemmas.Slice.Eq.{bytes_eq-Decides}
use Rattle.std.proofs.lemmas.Bool.Decides.{Decides-eqb}
use Rattle.chk_bytes.specs.Words.{is_word}
use Rattle.chk_bytes.proofs.WordLemmas.{word_lacks}
use Rattle.chk_bytes.proofs.PartLemmas.{same_split}
use Rattle.chk_agent_adaptor.specs.Adaptors.{Adaptor, is_past, revived}
use Rattle.chk_agent_table.specs.Adaptors.{is_of, is_named, stream_key}
use Rattle.chk_agent_table.specs.Fields.{IsSound, key_of, noted, without}
use Rattle.chk_agent_table.proofs.Places.{none_passes, fails, found_only, same_place, set_same}
use Rattle.chk_agent_table.proofs.Places.{set_other, set_cases, push_before, push_last, push_cases}
use Rattle.chk_agent_table.proofs.Places.{place_in_image, same_image}
use Rattle.chk_control.proofs.SpelledLemmas.{false_from_not as false_of}

-- ---- tests

false_from : (b : Bool) → (b ≡ true → ⊥) → b ≡ false
false_from true h = absurd (h refl)
false_from false h = refl

both_true : (b c : Bool) → (b && c) ≡ true → (b ≡ true) × (c ≡ true)
both_true true c h = (refl, h)
both_true false c h = absurd (false≢true h)

same_truth : (b c : Bool) → (b ≡ true → c ≡ true) → (c ≡ true → b ≡ true) → b ≡ c
same_truth true c there back = sym (there refl)
same_truth false true there back = back refl
same_truth false false there back = refl

are_same : (xs ys : List ℕ) → bytes_eq xs ys ≡ true → xs ≡ ys
are_same xs ys h = (bytes_eq-Decides xs ys).0 h

is_same : (xs ys : List ℕ) → xs ≡ ys → bytes_eq xs ys ≡ true
is_same xs ys h = (bytes_eq-Decides xs ys).1 h

-- an adaptor that is named so is live, and has the name
named_parts : (name : List ℕ) (a : Adaptor) → is_named name a ≡ true → (is_past a.phase ≡ false)
    × (a.name ≡ name)
named_parts name a h =
    let parts = both_true (not (is_past a.phase)) (bytes_eq a.name name) h in
    (false_of (is_past a.phase) parts.0, are_same a.name name parts.1)

named_so : (name : List ℕ) (a : Adaptor) → is_past a.phase ≡ false → a.name ≡ name → is_named name a
    ≡ true
named_so name a live same = ap₂ (λ b c. not b && c) live (is_same a.name name same)

-- no two streams have one key
one_key : (kind path : List ℕ) (a : Adaptor) → IsTrue (is_word kind) → IsTrue (is_word a.kind)
    → bytes_eq (stream_key kind path) (key_of a) ≡ is_of kind path a
one_key kind path a word words =
    same_truth (bytes_eq (stream_key kind path) (key_of a)) (is_of kind path a)
    (λ h.
    let split = same_split 32 kind path a.kind a.path (word_lacks 32 kind (omega arith) word)
    (word_lacks 32 a.kind (omega arith) words) (are_same (stream_key kind path) (key_of a) h) in
    ap₂ (λ b c. b && c) (is_same a.kind kind (sym split.0)) (is_same a.path path (sym split.1)))
    (λ h.
    let parts = both_true (bytes_eq a.kind kind) (bytes_eq a.path path) h in
    is_same (stream_key kind path) (key_of a)
    (ap₂ stream_key (sym (are_same a.kind kind parts.0)) (sym (are_same a.path path parts.1))))

-- ---- what is found

module _ (keys : List (List ℕ)) (xs : List Adaptor) (numbers : List ℕ → Option ℕ)
    (s : IsSound keys xs numbers) where
  -- the place of a key is that of its stream
  pub stream_place : (kind path : List ℕ) → IsTrue (is_word kind)
      → position (bytes_eq (stream_key kind path)) keys ≡ position (is_of kind path) xs
  stream_place kind path word =
      ap (position (bytes_eq (stream_key kind path))) s.keyed
      ∙ sym (place_in_image key_of (bytes_eq (stream_key kind path)) xs)
      ∙ same_place (λ a. bytes_eq (stream_key kind path) (key_of a)) (is_of kind path) xs
      (λ k a at. one_key kind path a word (s.words k a at))

  -- one that is named so stands at the number under the name
  at_number : (name : List ℕ) (k : ℕ) (a : Adaptor) → slice_get xs k ≡ Some a → is_named name a
      ≡ true
      → numbers name ≡ Some k
  at_number name k a at h =
      let parts = named_parts name a h in
      ap numbers (sym parts.1) ∙ s.live k a at parts.0

  pub named_none : (name : List ℕ) → numbers name ≡ None → position (is_named name) xs ≡ None
  named_none name e =
      none_passes (is_named name) xs
      (λ k a at. false_from (is_named name a) (λ h. none-some k (sym e ∙ at_number name k a at h)))

  pub named_past : (name : List ℕ) (i : ℕ) (a : Adaptor) → numbers name ≡ Some i → slice_get xs i
      ≡ Some a
      → is_past a.phase ≡ true → position (is_named name) xs ≡ None
  named_past name i a e at past =
      none_passes (is_named name) xs
      (λ k b there. false_from (is_named name b) (λ h.
      let same = same_Some k i (sym (at_number name k b there h) ∙ e) in
      let is = same_Some b a (sym there ∙ ap (slice_get xs) same ∙ at) in
      false≢true (sym (named_parts name b h).0 ∙ ap (λ (r : Adaptor). is_past r.phase) is ∙ past)))

  pub named_live : (name : List ℕ) (i : ℕ) (a : Adaptor) → numbers name ≡ Some i → slice_get xs i
      ≡ Some a
      → is_past a.phase ≡ false → position (is_named name) xs ≡ Some i
  named_live name i a e at live =
      let own = s.own name i e in
      let is = same_Some a own.0 (sym at ∙ own.1) in
      found_only (is_named name) xs i a at
      (named_so name a live (ap (λ (r : Adaptor). r.name) is ∙ own.2))
      (λ k b there h. same_Some k i (sym (at_number name k b there h) ∙ e))

-- ---- what a change leaves

-- the words stay, and none becomes live
pub record Alike (old new : Adaptor) : Type 0 where
  pub name : new.name ≡ old.name
  pub kind : new.kind ≡ old.kind
  pub path : new.path ≡ old.path
  pub past : is_past new.phase ≡ false → is_past old.phase ≡ false

module _ (keys : List (List ℕ)) (xs : List Adaptor) (numbers : List ℕ → Option ℕ)
    (s : IsSound keys xs numbers)
    (i : ℕ) (old new : Adaptor) (at : slice_get xs i ≡ Some old) (alike : Alike old new) where
  changed_words : (k : ℕ) (a : Adaptor) → ((k ≡ i) × (a ≡ new))
      ⊎ ((k ≡ i → ⊥) × (slice_get xs k ≡ Some a))
      → IsTrue (is_word a.kind)
  changed_words k a (inl e) =
      subst (λ w. IsTrue (is_word w)) (sym (ap (λ (r : Adaptor). r.kind) e.1 ∙ alike.kind))
      (s.words i old at)
  changed_words k a (inr e) = s.words k a e.1

  changed_live : (k : ℕ) (a : Adaptor) → ((k ≡ i) × (a ≡ new))
      ⊎ ((k ≡ i → ⊥) × (slice_get xs k ≡ Some a))
      → is_past a.phase ≡ false → numbers a.name ≡ Some k
  changed_live k a (inl e) live =
      ap numbers (ap (λ (r : Adaptor). r.name) e.1 ∙ alike.name)
      ∙ s.live i old at (alike.past (sym (ap (λ (r : Adaptor). is_past r.phase) e.1) ∙ live))
      ∙ ap Some (sym e.0)
  changed_live k a (inr e) live = s.live k a e.1 live

  own_here : (name : List ℕ) (k : ℕ) (a : Adaptor) → k ≡ i → slice_get xs k ≡ Some a → a.name ≡ name
      → (r : Adaptor) × (slice_get (slice_set xs i new) k ≡ Some r) × (r.name ≡ name)
  own_here name k a same there is =
      let stood : old ≡ a = same_Some old a (sym at ∙ ap (slice_get xs) (sym same) ∙ there) in
      let here : slice_get (slice_set xs i new) k ≡ Some new =
      ap (slice_get (slice_set xs i new)) same ∙ set_same xs i old new at in
      let named : new.name ≡ name = alike.name ∙ ap (λ (r : Adaptor). r.name) stood ∙ is in
      (new, here, named)

  own_apart : (name : List ℕ) (k : ℕ) (a : Adaptor) → (k ≡ i → ⊥) → slice_get xs k ≡ Some a → a.name
      ≡ name
      → (r : Adaptor) × (slice_get (slice_set xs i new) k ≡ Some r) × (r.name ≡ name)
  own_apart name k a apart there is = (a, set_other xs i k new apart ∙ there, is)

  changed_own : (name : List ℕ) (k : ℕ) → numbers name ≡ Some k
      → (r : Adaptor) × (slice_get (slice_set xs i new) k ≡ Some r) × (r.name ≡ name)
  changed_own name k e = go (k == i) refl (s.own name k e)
    where
      go : (b : Bool) → (k == i) ≡ b → (a : Adaptor) × (slice_get xs k ≡ Some a) × (a.name ≡ name)
          → (r : Adaptor) × (slice_get (slice_set xs i new) k ≡ Some r) × (r.name ≡ name)
      go true is own = own_here name k own.0 ((Decides-eqb k i).0 is) own.1 own.2
      go false is own =
          own_apart name k own.0 (λ same. false≢true (sym is ∙ (Decides-eqb k i).1 same)) own.1
          own.2

  pub changed : IsSound keys (slice_set xs i new) numbers
  changed = record {
    few = subst (λ n. n ≤ 10000) (sym (length-set xs i new)) s.few;
    keyed = s.keyed ∙ sym (same_image key_of xs i old new at
        (ap₂ stream_key alike.kind alike.path));
    words = λ k a there. changed_words k a (set_cases xs i k new a there);
    live = λ k a there. changed_live k a (set_cases xs i k new a there);
    own = changed_own;
  }

-- one more, behind the others
module _ (keys : List (List ℕ)) (xs : List Adaptor) (numbers : List ℕ → Option ℕ)
    (s : IsSound keys xs numbers)
    (a : Adaptor) (more : List ℕ → Option ℕ) (few : length xs < 10000)
    (word : IsTrue (is_word a.kind))
    (free : is_past a.phase ≡ false → position (is_named a.name) xs ≡ None)
    (found : (text : List ℕ) → more text
    ≡ noted (not (is_past a.phase)) a.name (length xs) numbers text) where
  -- a name that a live one had stays its own
  kept_name : (k : ℕ) (r : Adaptor) → slice_get xs k ≡ Some r → is_past r.phase ≡ false
      → more r.name ≡ Some k
  kept_name k r at live = found r.name ∙ go (is_past a.phase) refl
    where
      go : (b : Bool) → is_past a.phase ≡ b → noted (not b) a.name (length xs) numbers r.name
          ≡ Some k
      go true is = s.live k r at live
      go false is =
          let other = fails (is_named a.name) xs (free is) k r at in
          let apart = false_from (bytes_eq a.name r.name) (λ h.
          false≢true (sym other ∙ named_so a.name r live (sym (are_same a.name r.name h)))) in
          ap (λ b. cond b (Some (length xs)) (numbers r.name)) apart ∙ s.live k r at live

  added_live : (k : ℕ) (r : Adaptor) → ((k ≡ length xs) × (r ≡ a)) ⊎ (slice_get xs k ≡ Some r)
      → is_past r.phase ≡ false → more r.name ≡ Some k
  added_live k r (inl e) live =
      let is = sym (ap (λ (r : Adaptor). is_past r.phase) e.1) ∙ live in
      found r.name
      ∙ ap (λ b. noted (not b) a.name (length xs) numbers r.name) is
      ∙ ap (λ b. cond b (Some (length xs)) (numbers r.name))
      (is_same a.name r.name (sym (ap (λ (r : Adaptor). r.name) e.1)))
      ∙ ap Some (sym e.0)
  added_live k r (inr at) live = kept_name k r at live

  added_words : (k : ℕ) (r : Adaptor) → ((k ≡ length xs) × (r ≡ a)) ⊎ (slice_get xs k ≡ Some r)
      → IsTrue (is_word r.kind)
  added_words k r (inl e) = subst (λ (r : Adaptor). IsTrue (is_word r.kind)) (sym e.1) word
  added_words k r (inr at) = s.words k r at

  owned : (name : List ℕ) (k : ℕ) → numbers name ≡ Some k
      → (r : Adaptor) × (slice_get (xs ++ a ∷ []) k ≡ Some r) × (r.name ≡ name)
  owned name k e = let own = s.own name k e in (own.0, push_before xs a k own.0 own.1, own.2)

  added_own : (name : List ℕ) (k : ℕ) → more name ≡ Some k
      → (r : Adaptor) × (slice_get (xs ++ a ∷ []) k ≡ Some r) × (r.name ≡ name)
  added_own name k e = go (is_past a.phase) (sym (found name) ∙ e)
    where
      by : (b : Bool) → bytes_eq a.name name ≡ b → cond b (Some (length xs)) (numbers name) ≡ Some k
          → (r : Adaptor) × (slice_get (xs ++ a ∷ []) k ≡ Some r) × (r.name ≡ name)
      by true is e =
          let same = same_Some (length xs) k e in
          (a, ap (slice_get (xs ++ a ∷ [])) (sym same) ∙ push_last xs a, are_same a.name name is)
      by false is e = owned name k e

      go : (b : Bool) → noted (not b) a.name (length xs) numbers name ≡ Some k
          → (r : Adaptor) × (slice_get (xs ++ a ∷ []) k ≡ Some r) × (r.name ≡ name)
      go true e = owned name k e
      go false e = by (bytes_eq a.name name) refl e

  pub added : IsSound (keys ++ key_of a ∷ []) (xs ++ a ∷ []) more
  added =
      let size : length (xs ++ a ∷ []) ≡ length xs + 1 = length-append xs (a ∷ []) in
      record {
        few = omega arith;
        keyed = ap (λ l. l ++ key_of a ∷ []) s.keyed ∙ sym (map-append key_of xs (a ∷ []));
        words = λ k r there. added_words k r (push_cases xs a k r there);
        live = λ k r there. added_live k r (push_cases xs a k r there);
        own = added_own;
      }

-- a past one lives again, under a new name
module _ (keys : List (List ℕ)) (xs : List Adaptor) (numbers : List ℕ → Option ℕ)
    (s : IsSound keys xs numbers)
    (i : ℕ) (name : List ℕ) (old : Adaptor) (at : slice_get xs i ≡ Some old)
    (more : List ℕ → Option ℕ)
    (free : position (is_named name) xs ≡ None)
    (found : (text : List ℕ) → more text
    ≡ noted true name i (λ t. without old.name i t (numbers t)) text) where
  abbrev new : Adaptor
  new = revived name old

  rest : (text : List ℕ) → bytes_eq name text ≡ false → more text
      ≡ without old.name i text (numbers text)
  rest text is = found text ∙ ap (λ b. cond b (Some i) (without old.name i text (numbers text))) is

  revived_live : (k : ℕ) (a : Adaptor) → ((k ≡ i) × (a ≡ new))
      ⊎ ((k ≡ i → ⊥) × (slice_get xs k ≡ Some a))
      → is_past a.phase ≡ false → more a.name ≡ Some k
  revived_live k a (inl e) live =
      found a.name
      ∙ ap (λ b. cond b (Some i) (without old.name i a.name (numbers a.name)))
      (is_same name a.name (sym (ap (λ (r : Adaptor). r.name) e.1)))
      ∙ ap Some (sym e.0)
  revived_live k a (inr e) live =
      let other = fails (is_named name) xs free k a e.1 in
      let apart = false_from (bytes_eq name a.name) (λ h.
      false≢true (sym other ∙ named_so name a live (sym (are_same name a.name h)))) in
      let far = false_from (k == i) (λ h. e.0 ((Decides-eqb k i).0 h)) in
      rest a.name apart
      ∙ ap (without old.name i a.name) (s.live k a e.1 live)
      ∙ ap (λ b. if bytes_eq old.name a.name && b then None else Some k) far
      ∙ none (bytes_eq old.name a.name)
    where
      none : (b : Bool) → (if b && false then None else Some k) ≡ Some k
      none true = refl
      none false = refl

  revived_words : (k : ℕ) (a : Adaptor) → ((k ≡ i) × (a ≡ new))
      ⊎ ((k ≡ i → ⊥) × (slice_get xs k ≡ Some a))
      → IsTrue (is_word a.kind)
  revived_words k a (inl e) = subst (λ (r : Adaptor). IsTrue (is_word r.kind)) (sym e.1)
      (s.words i old at)
  revived_words k a (inr e) = s.words k a e.1

  -- what still stands under another name is no number of the one that lives again
  other_own : (text : List ℕ) (k : ℕ) (o : Option ℕ) → numbers text ≡ o → without old.name i text o
      ≡ Some k
      → (a : Adaptor) × (slice_get (slice_set xs i new) k ≡ Some a) × (a.name ≡ text)
  other_own text k None is e = absurd (none-some k e)
  other_own text k (Some j) is e = go (s.own text j is) (bytes_eq old.name text && (j == i)) refl e
    where
      go : (a : Adaptor) × (slice_get xs j ≡ Some a) × (a.name ≡ text) → (b : Bool)
          → (bytes_eq old.name text && (j == i)) ≡ b → (if b then None else Some j) ≡ Some k
          → (a : Adaptor) × (slice_get (slice_set xs i new) k ≡ Some a) × (a.name ≡ text)
      go own true test e = absurd (none-some k e)
      go own false test e =
          let same = same_Some j k e in
          let apart : j ≡ i → ⊥ = λ here.
          let stood = same_Some old own.0 (sym at ∙ ap (slice_get xs) (sym here) ∙ own.1) in
          false≢true (sym test ∙ ap₂ (λ b c. b && c)
          (is_same old.name text (ap (λ (r : Adaptor). r.name) stood ∙ own.2))
          ((Decides-eqb j i).1 here)) in (
            own.0,
            ap (slice_get (slice_set xs i new)) (sym same) ∙ set_other xs i j new apart ∙ own.1,
            own.2,
          )

  revived_own : (text : List ℕ) (k : ℕ) → more text ≡ Some k
      → (a : Adaptor) × (slice_get (slice_set xs i new) k ≡ Some a) × (a.name ≡ text)
  revived_own text k e = go (bytes_eq name text) refl
    where
      go : (b : Bool) → bytes_eq name text ≡ b
          → (a : Adaptor) × (slice_get (slice_set xs i new) k ≡ Some a) × (a.name ≡ text)
      go true is =
          let same = same_Some i k (ap (λ b. cond b (Some i)
          (without old.name i text (numbers text))) (sym is) ∙ sym (found text) ∙ e) in (
            new,
            ap (slice_get (slice_set xs i new)) (sym same)
                ∙ set_same xs i old new at,
            are_same name text is,
          )
      go false is = other_own text k (numbers text) refl (sym (rest text is) ∙ e)

  pub lives_again : IsSound keys (slice_set xs i new) more
  lives_again = record {
    few = subst (λ n. n ≤ 10000) (sym (length-set xs i new)) s.few;
    keyed = s.keyed ∙ sym (same_image key_of xs i old new at refl);
    words = λ k a there. revived_words k a (set_cases xs i k new a there);
    live = λ k a there. revived_live k a (set_cases xs i k new a there);
    own = revived_own;
  }
