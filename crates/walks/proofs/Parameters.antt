-- The parameters of a function that is walked by hand, each said once: what is had of it at exit, its machine values,
-- and that what is had gives what the contract says of it. And the contract, from a walk.
--     shared, lent, passed, valued     a `&[T]`; a `&mut [T]` that is had at exit, or that was passed on; a value
-- Assumes `Logic`.
use mathlib.Core.Path.{◌≡◌, refl}
use Prim.Native.Nat.{ℕ}
use mathlib.Core.List.{List, [], ◌∷◌}
use seplogic.Ra.Ura.{Ura}
use mir.Syntax.{Fn}
use mir.Val.{Val}
use base.Logic.{ent, sep}
use base.Fml.{ftrue}
use prog.Wp.{WpFn, Tables}
use types.Logic.{Logic}
use contract.Lifetimes.{Lfts, Shares, AllOutlive}
use sound.WpLaws.{WpFn-mono}
use denote.Exit.{Kept, yes, Last, left}
use denote.RattleType.{RattleType, flat}
use denote.Laws.{Is, Ises, Are, Spells, valss, Tells, Tellss}
use denote.Slice.{shr_slice_vals, mut_slice_vals, shr_slice_Tells, mut_slice_Tells}
use denote.Signature.{Slot, plain, shr_slice_of, mut_slice_of, types_at, AllWithin, meet_at, name_of}
use denote.Triple.Entry.{Args, on_entry}
use denote.Triple.End.{Kepts}
use denote.Triple.Spec.{Meets}
use denote.Triple.Clauses.{Clauses, Ended, closing}
use denote.Triple.Walked.{Stay, Stays, Goes, AllGo, stay_dropped, stay_slice, gave_slice, walk_of, walked}
use denote.Triple.Walked.{Goes-dropped, Goes-slice, Goes-gave_slice, walk_Meets}

pub record Parameter {n : ℕ} (s : Slot n) (k : Kept) : Type 2 where
  pub stay : Stay s k
  pub spell : (κs : Lfts n) → (s.row κs).Denot → List Val
  pub tells : (κs : Lfts n) → Tells (s.row κs) (Is (s.row κs)) (spell κs)
  pub goes : {M : Type 1} {𝓤 : Ura M} (𝓛 : Logic 𝓤) → Goes 𝓛 n s k stay

module _ (n : ℕ) where
  module _ (j : ℕ) (ok : AllWithin n (j ∷ [])) (R : RattleType) where
    abbrev pub shared : Parameter {n = n} (shr_slice_of (j ∷ []) ok (plain (λ _. R))) yes
    shared =
        record {
          stay = stay_dropped (shr_slice_of (j ∷ []) ok (plain (λ _. R))) yes;
          spell = λ κs. shr_slice_vals;
          tells = λ κs. shr_slice_Tells (name_of (j ∷ [])) (meet_at n (j ∷ []) ok κs) R;
          goes = λ 𝓛. Goes-dropped 𝓛 n (shr_slice_of (j ∷ []) ok (plain (λ _. R))) yes (λ κs x f. refl);
        }

    abbrev pub lent : Parameter {n = n} (mut_slice_of (j ∷ []) ok (plain (λ _. R))) yes
    lent =
        record {
          stay = stay_slice (j ∷ []) ok (plain (λ _. R));
          spell = λ κs. mut_slice_vals;
          tells = λ κs. mut_slice_Tells (name_of (j ∷ [])) (meet_at n (j ∷ []) ok κs) R;
          goes = λ 𝓛. Goes-slice 𝓛 n j ok (plain (λ _. R));
        }

    abbrev pub passed : Parameter {n = n} (mut_slice_of (j ∷ []) ok (plain (λ _. R))) yes
    passed =
        record {
          stay = gave_slice (j ∷ []) ok (plain (λ _. R));
          spell = λ κs. mut_slice_vals;
          tells = λ κs. mut_slice_Tells (name_of (j ∷ [])) (meet_at n (j ∷ []) ok κs) R;
          goes = λ 𝓛. Goes-gave_slice 𝓛 n j ok (plain (λ _. R));
        }

  abbrev pub valued : (R : RattleType) (vals : R.Denot → List Val) → Tells R (Is R) vals
      → ((x : R.Denot) (f : Last (R.exit yes) x) → left (R.exit yes) x f ≡ ftrue)
      → Parameter {n = n} (plain (λ _. R)) yes
  valued R vals tells silent =
      record {
        stay = stay_dropped (plain (λ _. R)) yes;
        spell = λ κs. vals;
        tells = λ κs. tells;
        goes = λ 𝓛. Goes-dropped 𝓛 n (plain (λ _. R)) yes (λ κs. silent);
      }

  -- the parameters of a function
  abbrev pub Parameters : (ss : List (Slot n)) → Kepts ss → Type 2
  Parameters [] ks = Unit {2}
  Parameters (s ∷ ss) ks = Parameter s ks.0 × Parameters ss ks.1

  abbrev pub stays_of : (ss : List (Slot n)) (ks : Kepts ss) → Parameters ss ks → Stays ss ks
  stays_of [] ks ps = tt
  stays_of (s ∷ ss) ks ps = (ps.0.stay, stays_of ss ks.1 ps.1)

  abbrev pub spells-of : (ss : List (Slot n)) (ks : Kepts ss) → Parameters ss ks → (κs : Lfts n)
      → Spells (types_at ss κs)
  spells-of [] ks ps κs = tt
  spells-of (s ∷ ss) ks ps κs = (ps.0.spell κs, spells-of ss ks.1 ps.1 κs)

  tells-of : (ss : List (Slot n)) (ks : Kepts ss) (ps : Parameters ss ks) (κs : Lfts n)
      → Tellss (types_at ss κs) (Ises (types_at ss κs)) (spells-of ss ks ps κs)
  tells-of [] ks ps κs = tt
  tells-of (s ∷ ss) ks ps κs = (ps.0.tells κs, tells-of ss ks.1 ps.1 κs)

  goes_of : {M : Type 1} {𝓤 : Ura M} (𝓛 : Logic 𝓤) (ss : List (Slot n)) (ks : Kepts ss)
      (ps : Parameters ss ks) → AllGo 𝓛 n ss ks (stays_of ss ks ps)
  goes_of 𝓛 [] ks ps = tt
  goes_of 𝓛 (s ∷ ss) ks ps = (ps.0.goes 𝓛, goes_of 𝓛 ss ks.1 ps.1)

module _ {M : Type 1} {𝓤 : Ura M} (𝓛 : Logic 𝓤) (𝓣 : Tables 𝓤 𝓛.H) (T : Ended)
    (ps : Parameters T.signature.lifetimes T.signature.params T.kept) (c : Clauses 𝓤 T) (f : Fn) where
  open 𝓛 use {H}

  abbrev hs : Stays T.signature.params T.kept
  hs = stays_of T.signature.lifetimes T.signature.params T.kept ps

  abbrev sp : (κs : Lfts T.signature.lifetimes) → Spells (types_at T.signature.params κs)
  sp κs = spells-of T.signature.lifetimes T.signature.params T.kept ps κs

  -- the contract, from a walk
  pub by-walk : ((κs : Lfts T.signature.lifetimes) (qs : Shares T.signature.lifetimes)
      (bounds : AllOutlive T.signature.lifetimes T.signature.outlives κs) (a : Args T.signature κs)
      (g : (c κs a).ghost)
      → Are (types_at T.signature.params κs) (Ises (types_at T.signature.params κs)) a
      (valss (types_at T.signature.params κs) (sp κs) a)
      → ent 𝓤 (sep 𝓤 (on_entry 𝓛 T.signature κs qs a (valss (types_at T.signature.params κs) (sp κs) a))
      ((c κs a).requires g))
      (WpFn 𝓤 H 𝓣.C 𝓣.Λ f
      (flat (types_at T.signature.params κs) (valss (types_at T.signature.params κs) (sp κs) a))
      ((walk_of 𝓛 T hs c).post ((κs, qs, bounds, a, valss (types_at T.signature.params κs) (sp κs) a), g))))
      → Meets 𝓛 T.signature (WpFn 𝓤 H 𝓣.C 𝓣.Λ f) (closing 𝓛 T c)
  by-walk walk =
      walk_Meets 𝓛 T hs (goes_of T.signature.lifetimes 𝓛 T.signature.params T.kept ps) c
      (WpFn 𝓤 H 𝓣.C 𝓣.Λ f)
      (WpFn-mono 𝓤 H 𝓛.laws 𝓣 f)
      (walked 𝓛 T hs c (WpFn 𝓤 H 𝓣.C 𝓣.Λ f) sp
      (tells-of T.signature.lifetimes T.signature.params T.kept ps) walk)
