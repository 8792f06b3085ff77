-- An index told apart from what else is read: what each answer says of what was read. Below 128 no index is read, and from there on nothing else.
-- By the cases of what is read.
use Prim.Native.Nat.{ℕ, ◌≤◌, ◌<◌}
use mathlib.Core.Path.{◌≡◌, refl, sym, ap, subst, ◌∙◌}
use native.Mathlib.Omega.{arith}
use mathlib.Core.List.{List}
use lib.ListN.{length, get_or}
use lib.Dec.{leb}
use borrow.Author.Tests.{le-leb, lt-leb}
use Rattle.memory.proofs.Order.{split, pick_true, pick-false}
use Rattle.integers.specs.Integer.{read_int}
use Rattle.integers.specs.declared.number.TableIndex.{TableIndex}
use Rattle.wire.specs.Text.{read_string}
use Rattle.wire.specs.Name.{read_name}
use Rattle.wire.specs.declared.name.NamePlace.{NamePlace}
use Rattle.blocks.specs.Reading.{read_indexed, read_literal, read_representation}
use Rattle.blocks.specs.declared.read.RepresentationPlace.{RepresentationPlace}
use Rattle.blocks.specs.declared.read.RepresentationPlace.TheVariants.{Indexed, Literal}
use Rattle.blocks.proofs.Equations.{indexed-refused, indexed-zero, indexed-found, literal-name-refused, literal-value-refused, literal-found, representation-literal, representation-indexed}
use Rattle.model_laws.proofs.Tables.{nope}
use Rattle.decoder_fields.specs.Indexes.{index_in, IsLiteral, row_index}
use Rattle.std.specs.Prelude.{Ok, Err, Option, Some, None, unwrap_or}
use Rattle.integers.specs.declared.answer.Refusal.{Refusal}
use Rattle.integers.specs.declared.answer.Refusal.TheVariants.{NotAllowed}
use Rattle.integers.specs.Answers.{Read}
use Rattle.wire.specs.declared.text.StringPlace.{StringPlace}
use Rattle.integers.specs.declared.integer.WireInt.{WireInt}

-- what was read, from what is told of it
pub entry_read : (r : Read RepresentationPlace) (i : TableIndex) (next : ℕ) → Some (i, next) ≡ index_in r → r ≡ Ok (Indexed i, next)
entry_read (Ok (Indexed j, n)) i next e =
    let read : Option (TableIndex × ℕ) → Read RepresentationPlace = λ o. Ok (Indexed (unwrap_or o (i, next)).0, (unwrap_or o (i, next)).1) in
    sym (ap read e)
entry_read (Ok (Literal flag name value, n)) i next e = nope (cc)
entry_read (Err why) i next e = nope (cc)

pub other-read : (p : RepresentationPlace) (next : ℕ) → None ≡ index_in (Ok (p, next)) → IsLiteral p
other-read (Indexed i) next e = nope (cc)
other-read (Literal flag name value) next e = tt

-- what is told, from the kind of representation that was found
pub place_read : {r : Read RepresentationPlace} {p q : RepresentationPlace} {next : ℕ} → r ≡ Ok (p, next) → p ≡ q → index_in (Ok (q, next)) ≡ index_in r
place_read {next = next} e d = sym (ap index_in e ∙ ap (λ (x : RepresentationPlace). index_in (Ok (x, next))) d)

-- below 128 a literal is read, or it is refused
module _ (s : List ℕ) (at : ℕ) where
  literal-value : (name : NamePlace) (next : ℕ) → read_name 6 s at ≡ Ok (name, next) → (t : Read StringPlace) → t ≡ read_string s next 2047 → index_in (read_literal s at) ≡ None
  literal-value name next d (Ok (value, after)) f = ap index_in (literal-found s at _ refl name next d _ f value after refl)
  literal-value name next d (Err why) f = ap index_in (literal-value-refused s at _ refl name next d _ f why refl)

  literal-name : (r : Read NamePlace) → r ≡ read_name 6 s at → index_in (read_literal s at) ≡ None
  literal-name (Ok (name, next)) e = literal-value name next (sym e) _ refl
  literal-name (Err why) e = ap index_in (literal-name-refused s at _ e why refl)

  pub low-other : at < length s → get_or s at 0 < 128 → None ≡ index_in (read_representation s at)
  low-other h k = sym (ap index_in (representation-literal s at h k) ∙ literal-name _ refl)

  -- from 128 on an index is read, or it is refused
  index_read : (r : Read WireInt) → r ≡ read_int 7 s at → None ≡ index_in (read_indexed s at) → (why : Refusal) × (read_indexed s at ≡ Err why)
  index_read (Err why) e d = (why, indexed-refused s at _ e why refl)
  index_read (Ok (n, next)) e d =
      split 0 n.value
      (λ h. let f : ◌≡◌ {A = Option (TableIndex × ℕ)} None (Some (record { value = n.value }, next)) = d ∙ ap index_in (indexed-found s at _ e n next refl (λ z. omega arith)) in nope (cc))
      (λ h. (NotAllowed, indexed-zero s at _ e n next refl (omega arith)))

  pub high-other : at < length s → 128 ≤ get_or s at 0 → None ≡ index_in (read_representation s at) → (why : Refusal) × (read_representation s at ≡ Err why)
  high-other h k d =
      let e = representation-indexed s at h k in
      let r = index_read _ refl (d ∙ ap index_in e) in
      (r.0, e ∙ r.1)

-- a short index of the header table
pub row-static : {r : Option (TableIndex × ℕ)} {i : TableIndex} {next : ℕ} → r ≡ Some (i, next) → i.value ≤ 61 → row_index r ≡ None
row-static {i = i} {next = next} e h = ap row_index e ∙ pick_true (leb i.value 61) None (Some (i, next)) (le-leb i.value 61 h)

pub row-above : {r : Option (TableIndex × ℕ)} {i : TableIndex} {next : ℕ} → r ≡ Some (i, next) → 61 < i.value → row_index r ≡ Some (i, next)
row-above {i = i} {next = next} e h = ap row_index e ∙ pick-false (leb i.value 61) None (Some (i, next)) (lt-leb i.value 61 h)

pub row-found : (r : Option (TableIndex × ℕ)) (i : TableIndex) (next : ℕ) → row_index r ≡ Some (i, next) → (r ≡ Some (i, next)) × (61 < i.value)
row-found None i next e = nope (cc)
row-found (Some (j, n)) i next e =
    split 61 j.value
    (λ h. let d : ◌≡◌ {A = Option (TableIndex × ℕ)} (Some (j, n)) (Some (i, next)) = sym (row-above refl h) ∙ e in
    let k : j ≡ i = ap (λ (o : Option (TableIndex × ℕ)). (unwrap_or o (i, next)).0) d in
    (d, subst (λ (x : TableIndex). 61 < x.value) k h))
    (λ h. let d : ◌≡◌ {A = Option (TableIndex × ℕ)} None (Some (i, next)) = sym (row-static refl h) ∙ e in nope (cc))
