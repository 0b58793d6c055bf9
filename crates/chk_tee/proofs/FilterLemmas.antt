-- Filters: what a text is read as, and the grammar.
use Rattle.std.proofs.Common.{◌≡◌, inl, inr, ℕ, ◌+◌, ◌-◌, ◌<◌, Bool, true, false, not, ◌==◌, cond, List, [], ◌∷◌, ◌++◌, length, take, drop, map, Option, Some, None, Result, Ok, Err, refl, sym, ap, ap₂, ◌∙◌, subst, arith}
use Rattle.std.specs.Prelude.{OnOk, IfErr, IsTrue, is_some, codes, bytes_eq, if◌then◌else◌, position}
use Rattle.std.specs.List.{list_all}
use Rattle.std.specs.Option.{option_map}
use Rattle.std.proofs.lemmas.Bool.{cond-true, cond-false, false_from_ne_true, and_parts, and_from, eqb-true, true≢false}
use Rattle.std.proofs.lemmas.List.{take_all, length-drop, take-append-drop, drop-drop, length-take-le}
use Rattle.std.proofs.lemmas.List.Quantifiers.{position-Some}
use Rattle.std.proofs.lemmas.Slice.Eq.{bytes_eq-Decides}
use Rattle.chk_bytes.specs.Words.{is_word, lacks, parts_at, onto_first, joined_at, behind_front}
use Rattle.chk_bytes.proofs.PartLemmas.{parts_at-whole, parts_at-front, split_found, split_none}
use Rattle.chk_tee.specs.Filters.{Part, OnHost, OnKind, OnName, part_text, part_word, IsFilter, HasParts, with_part, with_word, everything, asked_too, added, filter_from, filter_in, host_front, kind_front, name_front}
use Rattle.chk_tee.specs.FilterFaults.{IsAddFault, IsWordFault, IsFilterFault}
use Rattle.chk_tee.specs.declared.filters.Filter.{Filter}
use Rattle.chk_tee.specs.declared.filters.FilterFault.{FilterFault}
use Rattle.chk_tee.specs.declared.filters.FilterFault.TheVariants.{BadPart, NoMemory}
use Rattle.chk_bytes.specs.WordFaults.{word_fault_of}
use Rattle.chk_bytes.specs.declared.word.WordFault.{WordFault}
use Rattle.chk_bytes.proofs.FaultLemmas.{faultless-from_is_word}

-- ---- the parts of a text

abbrev pub has_part : List (List ℕ) → Bool
has_part [] = false
has_part (part ∷ parts) = true

pub parts_some : (c : ℕ) (text : List ℕ) → has_part (parts_at c text) ≡ true
parts_some c [] = refl
parts_some c (b ∷ text) = go (b == c) (parts_at c text)
  where
    go : (same : Bool) (parts : List (List ℕ)) → has_part (if same then [] ∷ parts else onto_first b parts) ≡ true
    go true parts = refl
    go false [] = refl
    go false (part ∷ parts) = refl

joined_more : (c b : ℕ) (parts : List (List ℕ)) → joined_at c (onto_first b parts) ≡ b ∷ joined_at c parts
joined_more c b [] = refl
joined_more c b (part ∷ []) = refl
joined_more c b (part ∷ next ∷ parts) = refl

joined_apart : (c : ℕ) (parts : List (List ℕ)) → has_part parts ≡ true → joined_at c ([] ∷ parts) ≡ c ∷ joined_at c parts
joined_apart c [] some = absurd (true≢false (sym some))
joined_apart c (part ∷ parts) some = refl

-- they join to it
pub joined_back : (c : ℕ) (text : List ℕ) → joined_at c (parts_at c text) ≡ text
joined_back c [] = refl
joined_back c (b ∷ text) = go (joined_back c text) (b == c) refl
  where
    go : joined_at c (parts_at c text) ≡ text → (same : Bool) → (b == c) ≡ same
        → joined_at c (if same then [] ∷ parts_at c text else onto_first b (parts_at c text)) ≡ b ∷ text
    go before true e =
        joined_apart c (parts_at c text) (parts_some c text) ∙ ap (λ rest. c ∷ rest) before ∙ ap (λ x. x ∷ text) (sym (eqb-true b c e))
    go before false e = joined_more c b (parts_at c text) ∙ ap (λ rest. b ∷ rest) before

-- and none has the separator
pub all_lack : (c : ℕ) (text : List ℕ) → list_all (lacks c) (parts_at c text) ≡ true
all_lack c [] = refl
all_lack c (b ∷ text) = go (b == c) refl (parts_at c text) (all_lack c text)
  where
    go : (same : Bool) → (b == c) ≡ same → (parts : List (List ℕ)) → list_all (lacks c) parts ≡ true
        → list_all (lacks c) (if same then [] ∷ parts else onto_first b parts) ≡ true
    go true e parts all = and_from true _ refl all
    go false e [] all = and_from _ _ (and_from _ _ (ap not e) refl) refl
    go false e (part ∷ parts) all =
        let p = and_parts (lacks c part) (list_all (lacks c) parts) all in
        and_from _ _ (and_from _ _ (ap not e) p.0) p.1

-- what was joined parts again
pub parted_back : (c : ℕ) (part : List ℕ) (parts : List (List ℕ)) → list_all (lacks c) (part ∷ parts) ≡ true
    → parts_at c (joined_at c (part ∷ parts)) ≡ part ∷ parts
parted_back c part [] all = parts_at-whole c part (and_parts (lacks c part) true all).0
parted_back c part (next ∷ parts) all =
    let p = and_parts (lacks c part) (list_all (lacks c) (next ∷ parts)) all in
    parts_at-front c part (joined_at c (next ∷ parts)) p.0 ∙ ap (λ l. part ∷ l) (parted_back c next parts p.1)

-- ---- one part

-- behind its front a text is what it was
fronts : (front text word : List ℕ) → behind_front front text ≡ Some word → text ≡ front ++ word
fronts front text word h = go (bytes_eq (take (length front) text) front) refl h
  where
    go : (b : Bool) → bytes_eq (take (length front) text) front ≡ b → cond b (Some (drop (length front) text)) None ≡ Some word
        → text ≡ front ++ word
    go true e h =
        let rest : drop (length front) text ≡ word = cc in
        sym (take-append-drop (length front) text) ∙ ap₂ (λ a b. a ++ b) ((bytes_eq-Decides _ _).0 e) rest
    go false e h = absurd (cc)

-- what asking for a word gives
asked_word : (field : Option (List ℕ)) (text : List ℕ) (T : Type 0) (made : List ℕ → T) (g : T)
    → option_map made (asked_too field text) ≡ Some g → IsTrue (is_word text) × (option_map made (with_word field text) ≡ Some g)
asked_word None text T made g h = go (is_word text) refl h
  where
    go : (b : Bool) → is_word text ≡ b → option_map made (cond b (Some text) None) ≡ Some g
        → IsTrue (is_word text) × (Some (made text) ≡ Some g)
    go true e h = (e, h)
    go false e h = absurd (cc)
asked_word (Some old) text T made g h = absurd (cc)

word_asked : (field : Option (List ℕ)) (text : List ℕ) → IsTrue (is_word text) → asked_too field text ≡ with_word field text
word_asked None text word = cond-true _ _ _ word
word_asked (Some old) text word = refl

-- the part that a text adds
pub record IsAdded (f : Filter) (text : List ℕ) (g : Filter) : Type 0 where
  pub part : Part
  pub word : IsTrue (is_word (part_word part))
  pub with_it : with_part f part ≡ Some g
  pub is : text ≡ part_text part

pub added_part : (f : Filter) (text : List ℕ) (g : Filter) → added f text ≡ Some g → IsAdded f text g
unfolding added
added_part f text g h = host (behind_front host_front text) refl h
  where
    name : (o : Option (List ℕ)) → behind_front name_front text ≡ o
        → elim o [ Some word ↦ option_map (λ w. record { host = f.host; kind = f.kind; name = Some w }) (asked_too f.name word) | None ↦ None ] ≡ Some g
        → IsAdded f text g
    name (Some word) e h =
        let a = asked_word f.name word Filter (λ w. record { host = f.host; kind = f.kind; name = Some w }) g h in
        record { part = OnName word; word = a.0; with_it = a.1; is = fronts name_front text word e }
    name None e h = absurd (cc)

    kind : (o : Option (List ℕ)) → behind_front kind_front text ≡ o
        → elim o [
          | Some word ↦ option_map (λ w. record { host = f.host; kind = Some w; name = f.name }) (asked_too f.kind word)
          | None ↦ elim (behind_front name_front text) [
            | Some word ↦ option_map (λ w. record { host = f.host; kind = f.kind; name = Some w }) (asked_too f.name word)
            | None ↦ None
          ]
        ] ≡ Some g
        → IsAdded f text g
    kind (Some word) e h =
        let a = asked_word f.kind word Filter (λ w. record { host = f.host; kind = Some w; name = f.name }) g h in
        record { part = OnKind word; word = a.0; with_it = a.1; is = fronts kind_front text word e }
    kind None e h = name (behind_front name_front text) refl h

    host : (o : Option (List ℕ)) → behind_front host_front text ≡ o
        → elim o [
          | Some word ↦ option_map (λ w. record { host = Some w; kind = f.kind; name = f.name }) (asked_too f.host word)
          | None ↦ elim (behind_front kind_front text) [
            | Some word ↦ option_map (λ w. record { host = f.host; kind = Some w; name = f.name }) (asked_too f.kind word)
            | None ↦ elim (behind_front name_front text) [
              | Some word ↦ option_map (λ w. record { host = f.host; kind = f.kind; name = Some w }) (asked_too f.name word)
              | None ↦ None
            ]
          ]
        ] ≡ Some g
        → IsAdded f text g
    host (Some word) e h =
        let a = asked_word f.host word Filter (λ w. record { host = Some w; kind = f.kind; name = f.name }) g h in
        record { part = OnHost word; word = a.0; with_it = a.1; is = fronts host_front text word e }
    host None e h = kind (behind_front kind_front text) refl h

pub part_added : (f g : Filter) (p : Part) → IsTrue (is_word (part_word p)) → with_part f p ≡ Some g → added f (part_text p) ≡ Some g
unfolding added
part_added f g (OnHost word) h e =
    ap (option_map (λ w. record { host = Some w; kind = f.kind; name = f.name })) (word_asked f.host word h) ∙ e
part_added f g (OnKind word) h e =
    ap (option_map (λ w. record { host = f.host; kind = Some w; name = f.name })) (word_asked f.kind word h) ∙ e
part_added f g (OnName word) h e =
    ap (option_map (λ w. record { host = f.host; kind = f.kind; name = Some w })) (word_asked f.name word h) ∙ e

-- ---- all parts

lacks_behind : (c : ℕ) (front back : List ℕ) → lacks c (front ++ back) ≡ true → lacks c back ≡ true
lacks_behind c [] back h = h
lacks_behind c (b ∷ front) back h = lacks_behind c front back (and_parts (not (b == c)) (lacks c (front ++ back)) h).1

part_lacks : (p : Part) → lacks 38 (part_text p) ≡ true → IsTrue (lacks 38 (part_word p))
part_lacks (OnHost word) h = lacks_behind 38 host_front word h
part_lacks (OnKind word) h = lacks_behind 38 kind_front word h
part_lacks (OnName word) h = lacks_behind 38 name_front word h

part_text_lacks : (p : Part) → IsTrue (lacks 38 (part_word p)) → lacks 38 (part_text p) ≡ true
part_text_lacks (OnHost word) h = h
part_text_lacks (OnKind word) h = h
part_text_lacks (OnName word) h = h

-- the parts that texts add
record AreAdded (f : Filter) (texts : List (List ℕ)) (g : Filter) : Type 0 where
  parts : List Part
  have : HasParts f parts g
  are : texts ≡ map part_text parts

parts_from : (at : ℕ) (f g : Filter) (texts : List (List ℕ)) → list_all (lacks 38) texts ≡ true
    → filter_from at f texts ≡ Ok g → AreAdded f texts g
parts_from at f g [] all h = record { parts = []; have = cc; are = refl }
parts_from at f g (text ∷ texts) all h =
    go (λ k lack e. parts_from (at + (length text + 1)) k g texts lack e) (added f text) refl h
  where
    go : ((k : Filter) → list_all (lacks 38) texts ≡ true → filter_from (at + (length text + 1)) k texts ≡ Ok g → AreAdded k texts g)
        → (o : Option Filter) → added f text ≡ o
        → elim o as (λ _. Result Filter ℕ) [ Some k ↦ filter_from (at + (length text + 1)) k texts | None ↦ Err at ] ≡ Ok g → AreAdded f (text ∷ texts) g
    go more (Some k) e h =
        let lack = and_parts (lacks 38 text) (list_all (lacks 38) texts) all in
        let first = added_part f text k e in
        let rest = more k lack.1 h in
        record {
          parts = first.part ∷ rest.parts;
          have = (
            k,
            (first.word, part_lacks first.part (subst (λ (t : List ℕ). lacks 38 t ≡ true) first.is lack.0)),
            first.with_it,
            rest.have,
          );
          are = ap₂ (λ t ts. t ∷ ts) first.is rest.are;
        }
    go more None e h = absurd (cc)

from_parts : (at : ℕ) (f g : Filter) (ps : List Part) → HasParts f ps g → filter_from at f (map part_text ps) ≡ Ok g
from_parts at f g [] have = ap (λ (h : Filter). Ok h) have
from_parts at f g (p ∷ ps) (k, (word, lack), with_it, rest) =
    go (from_parts (at + (length (part_text p) + 1)) k g ps rest) (added f (part_text p)) (part_added f k p word with_it)
  where
    go : filter_from (at + (length (part_text p) + 1)) k (map part_text ps) ≡ Ok g → (o : Option Filter) → o ≡ Some k
        → elim o as (λ _. Result Filter ℕ) [ Some h ↦ filter_from (at + (length (part_text p) + 1)) h (map part_text ps) | None ↦ Err at ] ≡ Ok g
    go more (Some h) e =
        let same : k ≡ h = cc in
        subst (λ (x : Filter). filter_from (at + (length (part_text p) + 1)) x (map part_text ps) ≡ Ok g) same more
    go more None e = absurd (cc)

parts_lack : (f g : Filter) (ps : List Part) → HasParts f ps g → list_all (lacks 38) (map part_text ps) ≡ true
parts_lack f g [] have = refl
parts_lack f g (p ∷ ps) (k, (word, lack), with_it, rest) = and_from _ _ (part_text_lacks p lack) (parts_lack k g ps rest)

-- ---- texts

some_parts : (texts : List (List ℕ)) (ps : List Part) → has_part texts ≡ true → texts ≡ map part_text ps → 0 < length ps
some_parts texts [] some are = absurd (true≢false (sym some ∙ ap has_part are))
some_parts texts (p ∷ ps) some are = omega arith

-- no part is `all`, so that parts aren't
not_all : (p : Part) (ps : List Part) → bytes_eq (joined_at 38 (map part_text (p ∷ ps))) (codes "all") ≡ false
not_all (OnHost word) [] = refl
not_all (OnHost word) (q ∷ ps) = refl
not_all (OnKind word) [] = refl
not_all (OnKind word) (q ∷ ps) = refl
not_all (OnName word) [] = refl
not_all (OnName word) (q ∷ ps) = refl

pub filter_read : (f : Filter) (text : List ℕ) → filter_in text ≡ Ok f → IsFilter f text
unfolding filter_in
filter_read f text h = go (bytes_eq text (codes "all")) refl h
  where
    go : (b : Bool) → bytes_eq text (codes "all") ≡ b → cond b (Ok everything) (filter_from 0 everything (parts_at 38 text)) ≡ Ok f
        → IsFilter f text
    go true e h = let same : f ≡ everything = cc in inl (same, (bytes_eq-Decides _ _).0 e)
    go false e h =
        let added_all = parts_from 0 everything f (parts_at 38 text) (all_lack 38 text) h in
        inr (
          added_all.parts,
          some_parts _ added_all.parts (parts_some 38 text) added_all.are,
          added_all.have,
          sym (joined_back 38 text) ∙ ap (joined_at 38) added_all.are,
        )

read_parts : (f : Filter) (ps : List Part) → 0 < length ps → HasParts everything ps f
    → cond (bytes_eq (joined_at 38 (map part_text ps)) (codes "all")) (Ok everything)
    (filter_from 0 everything (parts_at 38 (joined_at 38 (map part_text ps)))) ≡ Ok f
read_parts f [] some have = absurd (omega arith)
read_parts f (p ∷ ps) some have =
    cond-false _ _ _ (not_all p ps)
    ∙ (ap (filter_from 0 everything) (parted_back 38 (part_text p) (map part_text ps) (parts_lack everything f (p ∷ ps) have))
    ∙ from_parts 0 everything f (p ∷ ps) have)

pub read_filter_back : (f : Filter) (text : List ℕ) → IsFilter f text → filter_in text ≡ Ok f
unfolding filter_in
read_filter_back f text (inl (is, all)) = cond-true _ _ _ ((bytes_eq-Decides _ _).1 all) ∙ ap (λ (g : Filter). Ok g) (sym is)
read_filter_back f text (inr (ps, some, have, is)) =
    subst (λ (t : List ℕ). cond (bytes_eq t (codes "all")) (Ok everything) (filter_from 0 everything (parts_at 38 t)) ≡ Ok f)
    (sym is) (read_parts f ps some have)

pub one_filter : (f g : Filter) (text : List ℕ) → IsFilter f text → IsFilter g text → f ≡ g
one_filter f g text h i = let same = sym (read_filter_back f text h) ∙ read_filter_back g text i in cc

-- ---- what the function that reads needs

-- one part more that a text adds
one_more : (at : ℕ) (f g : Filter) (part : List ℕ) (texts : List (List ℕ)) → added f part ≡ Some g
    → filter_from at f (part ∷ texts) ≡ filter_from (at + (length part + 1)) g texts
one_more at f g part texts e =
    ap (λ (o : Option Filter). elim o as (λ _. Result Filter ℕ) [ Some k ↦ filter_from (at + (length part + 1)) k texts | None ↦ Err at ]) e

none_more : (at : ℕ) (f : Filter) (part : List ℕ) (texts : List (List ℕ)) → added f part ≡ None
    → filter_from at f (part ∷ texts) ≡ Err at
none_more at f part texts e =
    ap (λ (o : Option Filter). elim o as (λ _. Result Filter ℕ) [ Some k ↦ filter_from (at + (length part + 1)) k texts | None ↦ Err at ]) e

-- the first part of a text that has a separator
pub first_split : (at size : ℕ) (text : List ℕ) → position (λ b. b == 38) (drop at text) ≡ Some size
    → (parts_at 38 (drop at text) ≡ take size (drop at text) ∷ parts_at 38 (drop (at + (size + 1)) text))
    × (length (take size (drop at text)) ≡ size)
first_split at size text e =
    let split = split_found 38 size (drop at text) e in
    let within : size < length (drop at text) = (position-Some (λ b. b == 38) (drop at text) size 0 e).0 in (
      ap (parts_at 38) split.whole
          ∙ (parts_at-front 38 (take size (drop at text)) _ split.front_lacks
          ∙ ap (λ l. take size (drop at text) ∷ parts_at 38 l) (drop-drop (size + 1) at text)),
      length-take-le size (drop at text) (omega arith),
    )

pub filter_next : (at size : ℕ) (f g : Filter) (text : List ℕ) → position (λ b. b == 38) (drop at text) ≡ Some size
    → added f (take size (drop at text)) ≡ Some g
    → filter_from (at + (size + 1)) g (parts_at 38 (drop (at + (size + 1)) text)) ≡ filter_from at f (parts_at 38 (drop at text))
filter_next at size f g text e more =
    let first = first_split at size text e in
    sym
    (ap (filter_from at f) first.0
    ∙ (one_more at f g (take size (drop at text)) _ more
    ∙ ap (λ n. filter_from (at + (n + 1)) g (parts_at 38 (drop (at + (size + 1)) text))) first.1))

pub filter_bad : (at size : ℕ) (f : Filter) (text : List ℕ) → position (λ b. b == 38) (drop at text) ≡ Some size
    → added f (take size (drop at text)) ≡ None → filter_from at f (parts_at 38 (drop at text)) ≡ Err at
filter_bad at size f text e more = ap (filter_from at f) (first_split at size text e).0 ∙ none_more at f _ _ more

pub last_split : (at : ℕ) (text : List ℕ) → position (λ b. b == 38) (drop at text) ≡ None
    → parts_at 38 (drop at text) ≡ drop at text ∷ []
last_split at text e = parts_at-whole 38 (drop at text) (split_none 38 (drop at text) e)

pub filter_last : (at : ℕ) (f g : Filter) (text : List ℕ) → position (λ b. b == 38) (drop at text) ≡ None
    → added f (drop at text) ≡ Some g → filter_from at f (parts_at 38 (drop at text)) ≡ Ok g
filter_last at f g text e more = ap (filter_from at f) (last_split at text e) ∙ one_more at f g (drop at text) [] more

pub filter_last_bad : (at : ℕ) (f : Filter) (text : List ℕ) → position (λ b. b == 38) (drop at text) ≡ None
    → added f (drop at text) ≡ None → filter_from at f (parts_at 38 (drop at text)) ≡ Err at
filter_last_bad at f text e more = ap (filter_from at f) (last_split at text e) ∙ none_more at f (drop at text) [] more

-- the whole text, where it isn't `all`
pub filter_whole : (text : List ℕ) → (text ≡ codes "all" → ⊥) → filter_from 0 everything (parts_at 38 text) ≡ filter_in text
unfolding filter_in
filter_whole text other = sym (cond-false _ _ _ (false_from_ne_true _ (λ t. other ((bytes_eq-Decides _ _).0 t))))

pub filter_all : (text : List ℕ) → text ≡ codes "all" → filter_in text ≡ Ok everything
unfolding filter_in
filter_all text all = cond-true _ _ _ ((bytes_eq-Decides _ _).1 all)

-- ---- one part, as it is read

pub behind_found : (front text : List ℕ) → take (length front) text ≡ front → behind_front front text ≡ Some (drop (length front) text)
behind_found front text e = cond-true _ _ _ ((bytes_eq-Decides _ _).1 e)

pub behind_none : (front text : List ℕ) → (take (length front) text ≡ front → ⊥) → behind_front front text ≡ None
behind_none front text other = cond-false _ _ _ (false_from_ne_true _ (λ t. other ((bytes_eq-Decides _ _).0 t)))

pub added_host : (f : Filter) (text word : List ℕ) → behind_front host_front text ≡ Some word
    → added f text ≡ option_map (λ w. record { host = Some w; kind = f.kind; name = f.name }) (asked_too f.host word)
unfolding added
added_host f text word e = rw e

pub added_kind : (f : Filter) (text word : List ℕ) → behind_front host_front text ≡ None → behind_front kind_front text ≡ Some word
    → added f text ≡ option_map (λ w. record { host = f.host; kind = Some w; name = f.name }) (asked_too f.kind word)
unfolding added
added_kind f text word d e = rw (d, e)

pub added_name : (f : Filter) (text word : List ℕ) → behind_front host_front text ≡ None → behind_front kind_front text ≡ None
    → behind_front name_front text ≡ Some word
    → added f text ≡ option_map (λ w. record { host = f.host; kind = f.kind; name = Some w }) (asked_too f.name word)
unfolding added
added_name f text word c d e = rw (c, d, e)

pub added_none : (f : Filter) (text : List ℕ) → behind_front host_front text ≡ None → behind_front kind_front text ≡ None
    → behind_front name_front text ≡ None → added f text ≡ None
unfolding added
added_none f text c d e = rw (c, d, e)

-- ---- asking

pub not_asked : (text : List ℕ) (fault : WordFault) → word_fault_of text ≡ Some fault → asked_too None text ≡ None
not_asked text fault e =
    cond-false _ _ _ (false_from_ne_true _ (λ word. let none = faultless-from_is_word text word in absurd (cc)))

pub refused : (field : Option (List ℕ)) (text : List ℕ) (o : Option WordFault) → o ≡ word_fault_of text → true ≡ is_some o
    → asked_too field text ≡ None
refused (Some old) text o e some = refl
refused None text None e some = absurd (cc)
refused None text (Some fault) e some = not_asked text fault (sym e)

-- what asking for a name's word does to the filter that the text is added to
pub ok_made : (f : Filter) (text word : List ℕ) (field : Option (List ℕ)) (made : List ℕ → Filter) (r : Result (Unit {0}) FilterFault)
    → added f text ≡ option_map made (asked_too field word) → OnOk r (asked_too field word ≡ Some word)
    → OnOk r (added f text ≡ Some (made word))
ok_made f text word field made (Ok done) e ok = e ∙ ap (option_map made) ok
ok_made f text word field made (Err fault) e ok = tt

pub err_made : (f : Filter) (text word : List ℕ) (at : ℕ) (field : Option (List ℕ)) (made : List ℕ → Filter) (r : Result (Unit {0}) FilterFault)
    → added f text ≡ option_map made (asked_too field word) → IfErr r (λ fault. IsWordFault field word at fault)
    → IfErr r (λ fault. IsAddFault f text at fault)
err_made f text word at field made (Ok done) e err = tt
err_made f text word at field made (Err (BadPart place)) e err = (e ∙ ap (option_map made) err.0, err.1)
err_made f text word at field made (Err NoMemory) e err = tt

pub host_ok : (f : Filter) (text word : List ℕ) (new : Option (List ℕ)) (r : Result (Unit {0}) FilterFault)
    → behind_front host_front text ≡ Some word → OnOk r (asked_too f.host word ≡ Some word) → OnOk r (new ≡ Some word)
    → OnOk r (added f text ≡ Some (record { host = new; kind = f.kind; name = f.name }))
host_ok f text word new (Ok done) e ok is =
    ok_made f text word f.host (λ w. record { host = Some w; kind = f.kind; name = f.name }) (Ok done) (added_host f text word e) ok
    ∙ ap (λ (o : Option (List ℕ)). Some (let g : Filter = record { host = o; kind = f.kind; name = f.name } in g)) (sym is)
host_ok f text word new (Err fault) e ok is = tt

pub kind_ok : (f : Filter) (text word : List ℕ) (new : Option (List ℕ)) (r : Result (Unit {0}) FilterFault)
    → behind_front host_front text ≡ None → behind_front kind_front text ≡ Some word
    → OnOk r (asked_too f.kind word ≡ Some word) → OnOk r (new ≡ Some word)
    → OnOk r (added f text ≡ Some (record { host = f.host; kind = new; name = f.name }))
kind_ok f text word new (Ok done) d e ok is =
    ok_made f text word f.kind (λ w. record { host = f.host; kind = Some w; name = f.name }) (Ok done) (added_kind f text word d e) ok
    ∙ ap (λ (o : Option (List ℕ)). Some (let g : Filter = record { host = f.host; kind = o; name = f.name } in g)) (sym is)
kind_ok f text word new (Err fault) d e ok is = tt

pub name_ok : (f : Filter) (text word : List ℕ) (new : Option (List ℕ)) (r : Result (Unit {0}) FilterFault)
    → behind_front host_front text ≡ None → behind_front kind_front text ≡ None → behind_front name_front text ≡ Some word
    → OnOk r (asked_too f.name word ≡ Some word) → OnOk r (new ≡ Some word)
    → OnOk r (added f text ≡ Some (record { host = f.host; kind = f.kind; name = new }))
name_ok f text word new (Ok done) c d e ok is =
    ok_made f text word f.name (λ w. record { host = f.host; kind = f.kind; name = Some w }) (Ok done) (added_name f text word c d e) ok
    ∙ ap (λ (o : Option (List ℕ)). Some (let g : Filter = record { host = f.host; kind = f.kind; name = o } in g)) (sym is)
name_ok f text word new (Err fault) c d e ok is = tt

-- ---- the whole

pub fault_here : (text : List ℕ) (f : Filter) (part : List ℕ) (at : ℕ) (fault : FilterFault)
    → (added f part ≡ None → filter_in text ≡ Err at) → IsAddFault f part at fault → IsFilterFault text fault
fault_here text f part at (BadPart place) bad h = bad h.0 ∙ ap (λ n. Err n) (sym h.1)
fault_here text f part at NoMemory bad h = tt

-- a part between two places
pub sliced : (at size : ℕ) (text : List ℕ) → take (at + size - at) (drop at text) ≡ take size (drop at text)
sliced at size text = ap (λ n. take n (drop at text)) (omega arith)

pub rest_sliced : (at : ℕ) (text : List ℕ) → take (length text - at) (drop at text) ≡ drop at text
rest_sliced at text = take_all (length text - at) (drop at text) (omega (arith, length-drop at text))

-- the steps of the function, over its slices
placed : (at : ℕ) (text : List ℕ) (o : Option ℕ) → o ≡ position (λ b. b == 38) (take (length text - at) (drop at text))
    → position (λ b. b == 38) (drop at text) ≡ o
placed at text o e = ap (position (λ b. b == 38)) (sym (rest_sliced at text)) ∙ sym e

pub next_step : (at size : ℕ) (f g : Filter) (text : List ℕ)
    → Some size ≡ position (λ b. b == 38) (take (length text - at) (drop at text))
    → added f (take (at + size - at) (drop at text)) ≡ Some g
    → filter_from (at + (size + 1)) g (parts_at 38 (drop (at + (size + 1)) text)) ≡ filter_from at f (parts_at 38 (drop at text))
next_step at size f g text e more =
    filter_next at size f g text (placed at text (Some size) e) (ap (added f) (sym (sliced at size text)) ∙ more)

pub bad_step : (at size : ℕ) (f : Filter) (text : List ℕ) (fault : FilterFault)
    → Some size ≡ position (λ b. b == 38) (take (length text - at) (drop at text))
    → filter_from at f (parts_at 38 (drop at text)) ≡ filter_in text
    → IsAddFault f (take (at + size - at) (drop at text)) at fault → IsFilterFault text fault
bad_step at size f text fault e same h =
    fault_here text f (take (at + size - at) (drop at text)) at fault
    (λ none. sym same
    ∙ filter_bad at size f text (placed at text (Some size) e) (ap (added f) (sym (sliced at size text)) ∙ none)) h

pub last_step : (at : ℕ) (f g : Filter) (text : List ℕ)
    → None ≡ position (λ b. b == 38) (take (length text - at) (drop at text))
    → filter_from at f (parts_at 38 (drop at text)) ≡ filter_in text
    → added f (take (length text - at) (drop at text)) ≡ Some g → filter_in text ≡ Ok g
last_step at f g text e same more =
    sym same ∙ filter_last at f g text (placed at text None e) (ap (added f) (sym (rest_sliced at text)) ∙ more)

pub last_bad : (at : ℕ) (f : Filter) (text : List ℕ) (fault : FilterFault)
    → None ≡ position (λ b. b == 38) (take (length text - at) (drop at text))
    → filter_from at f (parts_at 38 (drop at text)) ≡ filter_in text
    → IsAddFault f (take (length text - at) (drop at text)) at fault → IsFilterFault text fault
last_bad at f text fault e same h =
    fault_here text f (take (length text - at) (drop at text)) at fault
    (λ none. sym same ∙ filter_last_bad at f text (placed at text None e) (ap (added f) (sym (rest_sliced at text)) ∙ none)) h
