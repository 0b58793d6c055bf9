-- Records that are looked at as they are read.
use Rattle.std.proofs.Common.{◌≡◌, ◌<◌, ℕ, List, [], ◌∷◌, ◌++◌, take, true, false, None, refl, sym, subst, append_assoc, append-nil, ◌∙◌}
use Rattle.chk_seqfile.specs.Entries.{records_of}
use Rattle.chk_seqfile.specs.declared.headers.HeaderFault.{HeaderFault}
use Rattle.chk_seqfile.specs.declared.entries.Why.{Why}
use Rattle.chk_chunk.specs.Keys.{chunk_limit}
use Rattle.chk_salvage.specs.declared.pieces.Pieces.{Pieces}
use Rattle.chk_salvage.specs.declared.entry.EntryRef.{EntryRef}
use Rattle.chk_salvage.specs.declared.fed.Fed.TheVariants.{Entry, More, Header, Damaged, Long}
use Rattle.chk_salvage.specs.Views.{placed_of}
use Rattle.chk_salvage.specs.Feeding.{fed_place, fed_marker, IsFed, Stands, Answered}
use Rattle.chk_world.specs.Books.{End, chunk_of}
use Rattle.chk_record_index.specs.Heads.{Head, head_of}
use Rattle.chk_record_index.proofs.FedRecords.{GoesOver, goes_entry, goes_further, spoiled_record, spoiled_header, spoiled_entry, spoiled_long}
use Rattle.chk_demux_scan.specs.Looking.{LooksOn, LooksMore, LookedIf, LookedFed}
use Rattle.chk_demux_scan.specs.declared.looking.Look.{Look}

-- no head more
pub looks_none : (es : List End) (places : List ℕ) (held : List Head) (look : Look)
    → LooksMore es places [] held look held look
looks_none es places held look rise seen old l =
    subst (λ hs. LooksOn es places hs old held look) (sym (append-nil seen)) l

-- and then one
pub looks_then : (es : List End) (places : List ℕ) (went more : List Head)
    (held mid now : List Head) (before between after : Look)
    → LooksMore es places went held before mid between
    → LooksMore es places more mid between now after
    → LooksMore es places (went ++ more) held before now after
looks_then es places went more held mid now before between after first then rise seen old l =
    subst (λ hs. LooksOn es places hs old now after) (append_assoc seen went more)
    (then rise (seen ++ went) old (first rise seen old l))

-- the reader stands there, and the heads of all that it has passed were looked at
pub record IsLooked (es : List End) (places : List ℕ) (file : ℕ) (p q : Pieces) (held : List Head)
    (before : Look) (now : List Head) (after : Look) (place : ℕ) : Type 0 where
  pub went : List Head
  pub over : GoesOver chunk_limit file p q [] went place
  pub looks : LooksMore es places went held before now after

pub looked_begin : (es : List End) (places : List ℕ) (file : ℕ) (p : Pieces) (held : List Head)
    (look : Look) (place : ℕ) → place ≡ fed_place p → (fed : List ℕ) × IsFed p fed
    → IsLooked es places file p p held look held look place
looked_begin es places file p held look place here some = record {
  went = [];
  over = record {
    limit = refl;
    here = here;
    some = some;
    over = λ fed state. record {
      state = state;
      more = [];
      records = sym (append-nil (records_of (take (fed_place p) fed)));
      chunks = refl;
      heads = refl;
    };
  };
  looks = looks_none es places held look;
}

module _ (es : List End) (places : List ℕ) (file : ℕ) (p q r : Pieces) (held : List Head)
    (before : Look) (mid : List Head) (between : Look) (place : ℕ)
    (inv : IsLooked es places file p q held before mid between place) where
  -- a record more
  pub looked_entry : (e : EntryRef) (now : List Head) (after : Look) → Answered q r (Entry e)
      → LookedIf true es places file (placed_of e) mid between now after
      → IsLooked es places file p r held before now after e.end
  looked_entry e now after a (c, is, more) = record {
    went = inv.went ++ head_of file e.at c ∷ [];
    over = goes_entry chunk_limit file p q r [] inv.went place inv.over e
        (inv.went ++ head_of file e.at c ∷ []) a (c, is, refl);
    looks = looks_then es places inv.went (head_of file e.at c ∷ []) held mid now before between
        after inv.looks more;
  }

  pub looked_further : (e : EntryRef) → Answered q r (Entry e) → place < e.end
  looked_further e a = goes_further chunk_limit file p q r [] inv.went place inv.over e a

  -- all that was fed was gone over
  pub looked_all : Answered q r More
      → LookedFed true es places file p r held before mid between
  looked_all a = (
    inv.went,
    λ fed state chunks.
        let w = inv.over.over fed state in
        let x = a.by_fed fed w.state in (
          record {
            state = x.state;
            more = w.more;
            records = x.records ∙ (append-nil (records_of (take (fed_place q) fed)) ∙ w.records);
            chunks = w.chunks;
            heads = w.heads;
          },
          subst (λ l. Stands l fed (fed_marker r) (fed_place r) More) (a.limit ∙ inv.over.limit)
              x.stands,
        ),
    inv.looks,
  )

  -- it can't begin a file of chunks
  pub looked_record : (e : EntryRef) (now : List Head) (after : Look) → Answered q r (Entry e)
      → chunk_of chunk_limit (placed_of e) ≡ None
      → LookedFed false es places file p r held before now after
  looked_record e now after a none = (
    e.at,
    λ fed state chunks.
        spoiled_record chunk_limit file p q r [] inv.went place inv.over e a none fed state chunks,
  )

  pub looked_header : (fault : HeaderFault) → Answered q r (Header fault)
      → LookedFed false es places file p r held before mid between
  looked_header fault a = (
    0,
    λ fed state chunks.
        spoiled_header chunk_limit file p q r [] inv.went place inv.over fault a fed state chunks,
  )

  pub looked_damage : (at : ℕ) (why : Why) → Answered q r (Damaged at why)
      → LookedFed false es places file p r held before mid between
  looked_damage at why a = (
    at,
    λ fed state chunks.
        spoiled_entry chunk_limit file p q r [] inv.went place inv.over at why a fed state chunks,
  )

  pub looked_long : (at need : ℕ) → Answered q r (Long at need)
      → LookedFed false es places file p r held before mid between
  looked_long at need a = (
    at,
    λ fed state chunks.
        spoiled_long chunk_limit file p q r [] inv.went place inv.over at need a fed state chunks,
  )
