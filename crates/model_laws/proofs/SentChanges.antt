-- The ways in which a call changes the encoder's table, each of which keeps the state well formed: an entry put in, an entry freed, and a change
-- of every entry that leaves its index and what it holds.
use mathlib.Core.Path.{◌≡◌, refl, sym, ap, subst, ◌∙◌}
use Prim.Native.Nat.{ℕ, suc, ◌+◌, ◌≤◌, ◌<◌, max}
use native.Mathlib.Omega.{arith}
use native.Mathlib.Nat.{max-le}
use mathlib.Core.Option
use mathlib.Core.Option.{Option, none, some}
use mathlib.Core.List.{List, map}
use lib.ListN.{length-map}
use lib.Dec.{eqb}
use Rattle.memory.proofs.Order.{pick-both}
use Rattle.blocks.specs.Representation.{Representation}
use Rattle.blocks.specs.Meaning.{block_references}
use Rattle.model.specs.Table.{size, look, put, cut}
use Rattle.model.specs.Parts.{Part, nontrailer, trailer, Marks, streams}
use Rattle.model.specs.Encoder.{Sent, sent_index, Encoder, sent_size, with_sent, as_deleted, mark_deleted, mentions, referred, refer, FineSent}
use Rattle.model.specs.Encoder.{FormsEncoder, with_written}
use Rattle.model.proofs.Places.{place-left}
use Rattle.model_laws.proofs.Tables.{nope, look-put, asc-put, total-put, length-put, look-cut, asc-cut, total-cut, length_cut, look-map, asc-map}
use Rattle.model_laws.proofs.Tables.{total-map}

-- ---- what a delete and a block change of an entry: not what it holds; horizons stay at most 4,096

module _ (i : ℕ) (e : Sent) where
  pub delete-entry : (mark_deleted i e).entry ≡ e.entry
  unfolding mark_deleted
  delete-entry = pick-both (λ (x : Sent). x.entry ≡ e.entry) (eqb e.index i) (as_deleted e) e (λ t. refl) (λ t. refl)

  pub delete-fine : FineSent e → FineSent (mark_deleted i e)
  unfolding mark_deleted
  delete-fine f =
      pick-both FineSent (eqb e.index i) (as_deleted e) e
      (λ t. record { low = f.low; high = f.high; name = f.name; value = f.value; nontrailer = f.nontrailer; trailer = f.trailer })
      (λ t. f)

module _ (s : ℕ) (p : Part) (rs : List Representation) where
  referred-entry : (q : Part) (e : Sent) → (referred s q e).entry ≡ e.entry
  unfolding referred
  referred-entry nontrailer e = refl
  referred-entry trailer e = refl

  raised : (h : ℕ) → h ≤ 4096 → s < streams → max h (suc s) ≤ 4096
  raised h a b = max-le a b

  referred-fine : (q : Part) (e : Sent) → s < streams → FineSent e → FineSent (referred s q e)
  unfolding referred
  referred-fine nontrailer e h f =
      record { low = f.low; high = f.high; name = f.name; value = f.value; nontrailer = raised e.nontrailer f.nontrailer h; trailer = f.trailer }
  referred-fine trailer e h f =
      record { low = f.low; high = f.high; name = f.name; value = f.value; nontrailer = f.nontrailer; trailer = raised e.trailer f.trailer h }

  pub refer-entry : (e : Sent) → (refer s p rs e).entry ≡ e.entry
  unfolding refer
  refer-entry e =
      pick-both (λ (x : Sent). x.entry ≡ e.entry) (mentions (block_references rs) e.index) (referred s p e) e (λ t. referred-entry p e) (λ t. refl)

  pub refer-fine : s < streams → (e : Sent) → FineSent e → FineSent (refer s p rs e)
  unfolding refer
  refer-fine h e f = pick-both FineSent (mentions (block_references rs) e.index) (referred s p e) e (λ t. referred-fine p e h f) (λ t. f)

-- ---- the table after it

module _ (E : Encoder) (F : FormsEncoder E) where
  -- a new entry that fits, at an index that is not held
  module _ (x : Sent) (free : look sent_index x.index E.entries ≡ none) where
    put_entries : FineSent x → (j : ℕ) (y : Sent) → look sent_index j (put sent_index x E.entries) ≡ some y → FineSent y
    put_entries fine j y e =
        pick-both (λ (o : Option Sent). o ≡ some y → FineSent y) (eqb x.index j) (some x) (look sent_index j E.entries)
        (λ t q. let same : x ≡ y = cc in subst FineSent same fine)
        (λ t q. F.entries j y q)
        (sym (look-put sent_index j x E.entries free) ∙ e)

    pub sent-put : FineSent x → sent_size E.entries + size x.entry ≤ E.limit
        → FormsEncoder (with_sent E (put sent_index x E.entries))
    unfolding sent_size
    sent-put fine fits =
        record {
          limit = F.limit;
          fits = let t = total-put sent_index (λ e. size e.entry) x E.entries in let l = F.limit in omega arith;
          few =
              let t = length-put sent_index x E.entries in
              omega (arith, place-left sent_index (λ e. e.entry) E.entries x.entry E.limit F.limit fits);
          order = asc-put sent_index 62 x E.entries fine.low free F.order;
          entries = put_entries fine;
        }

  -- an entry freed
  module _ (x : Sent) (there : look sent_index x.index E.entries ≡ some x) where
    cut-entries : (j : ℕ) (y : Sent) → look sent_index j (cut sent_index x.index E.entries) ≡ some y → FineSent y
    cut-entries j y e =
        pick-both (λ (o : Option Sent). o ≡ some y → FineSent y) (eqb x.index j) none (look sent_index j E.entries)
        (λ t q. nope (cc))
        (λ t q. F.entries j y q)
        (sym (look-cut sent_index x.index j 62 E.entries F.order) ∙ e)

    pub sent-free : FormsEncoder (with_sent E (cut sent_index x.index E.entries))
    unfolding sent_size
    sent-free =
        record {
          limit = F.limit;
          fits = let t = total-cut sent_index (λ e. size e.entry) x.index E.entries x there in let f = F.fits in omega arith;
          few = let t = length_cut sent_index x.index E.entries x there in let f = F.few in omega arith;
          order = asc-cut sent_index x.index 62 E.entries F.order;
          entries = cut-entries;
        }

  -- every entry changed, but for its index and what it holds
  module _ (f : Sent → Sent) (index : (e : Sent) → (f e).index ≡ e.index) (entry : (e : Sent) → (f e).entry ≡ e.entry)
      (fine : (e : Sent) → FineSent e → FineSent (f e)) where
    map_found : (o : Option Sent) → ((e : Sent) → o ≡ some e → FineSent e) → (y : Sent) → Option.map f o ≡ some y → FineSent y
    map_found none g y e = nope (cc)
    map_found (some x) g y e = let same : f x ≡ y = cc in subst FineSent same (fine x (g x refl))

    pub sent-map : (written : Marks) → FormsEncoder (with_written (with_sent E (map f E.entries)) written)
    unfolding sent_size
    sent-map written =
        record {
          limit = F.limit;
          fits = rw (total-map sent_index f index (λ e. size e.entry) (λ e. ap size (entry e)) E.entries) F.fits;
          few = rw (length-map E.entries f) F.few;
          order = asc-map sent_index f index 62 E.entries F.order;
          entries = λ j y e. map_found (look sent_index j E.entries) (F.entries j) y (sym (look-map sent_index f index j E.entries) ∙ e);
        }
