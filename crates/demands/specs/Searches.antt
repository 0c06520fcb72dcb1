-- What is said of the searches as they run.
use Rattle.std.specs.Prelude.{ℕ, ◌≡◌, List, [], Ok}
use denote.Triple.Clauses.{Ended}
use Rattle.table.specs.declared.Rejection.{Rejection}
use Rattle.methods.specs.declared.Method.{Method}
use Rattle.methods.specs.declared.Answer.{Answer}
use Rattle.methods.specs.declared.Answer.TheVariants.{Found, Spent, Rejected}
use Rattle.methods.specs.Outcome.{Lent, lent}
use Rattle.search.proofs as search
use Rattle.search.specs.contracts as search'
use Rattle.plain.proofs as plain
use Rattle.plain.specs.contracts as plain'
use Rattle.plain.specs.declared.PlainResult.{PlainResult}
use Rattle.demands.specs.Runs.{Claim, Runs, RunBoth, Function, function}

-- a call of `search::search`: what it was asked and lent, what it answered and left
pub record Call : Type 0 where
  pub method : Method
  pub table : List ℕ
  pub lent : Lent
  pub answer : Answer
  pub left : Lent

abbrev pub call : Method → (t marks flags order : List ℕ) → Answer → (marks' flags' order' : List ℕ) → Call
call w t m f o r m' f' o' =
    record { method = w; table = t; lent = lent m f o; answer = r; left = lent m' f' o' }

-- whenever `search::search` is called, P holds of the call
pub record EverySearch (P : Call → Type 0) : Type 2 where
  pub runs : Runs search'.search.ended (function search.search.Symbol.name search.search.Symbol.code)
      (λ κs (w, (t, (m, (f, (o, _))))) r (_, (_, (m', (f', (o', _))))).
      P (call w t.now m.now f.now o.now r m'.now f'.now o'.now))

-- whenever it is called twice, P holds of the two calls
pub record EveryTwo (P : Call → Call → Type 0) : Type 2 where
  pub runs : RunBoth search'.search.ended search'.search.ended
      (function search.search.Symbol.name search.search.Symbol.code)
      (function search.search.Symbol.name search.search.Symbol.code)
      (λ κs (w, (t, (m, (f, (o, _))))) r (_, (_, (m', (f', (o', _))))) κs' (v, (u, (x, (y, (z, _))))) q.
      λ (_, (_, (x', (y', (z', _))))).
      P (call w t.now m.now f.now o.now r m'.now f'.now o'.now)
      (call v u.now x.now y.now z.now q x'.now y'.now z'.now))

-- whenever it is called and g is called, P holds of the two calls
pub record EverySearchAnd (T : Ended) (g : Function) (P : Call → Claim T) : Type 2 where
  pub runs : RunBoth search'.search.ended T (function search.search.Symbol.name search.search.Symbol.code) g
      (λ κs (w, (t, (m, (f, (o, _))))) r (_, (_, (m', (f', (o', _))))).
      P (call w t.now m.now f.now o.now r m'.now f'.now o'.now))

-- the call is not refused: it gives a result, or its allowance is spent
abbrev pub Given : Call → Type 0
Given c = (q : Rejection) → c.answer ≡ Rejected q → ⊥

-- the count of evaluated leaves in an answer
abbrev pub count_of : Answer → ℕ
count_of (Found f) = f.leaves
count_of (Spent s) = s.leaves
count_of (Rejected q) = 0

-- whenever `plain::search` gives a result, P holds: of the table, what it found, and what it was lent and left (it has
-- no list of leaves)
pub record EachPlain (P : (t : List ℕ) → PlainResult → Lent → (left : Lent) → Type 0) : Type 2 where
  pub plain_search : Runs plain'.search.ended (function plain.search.Symbol.name plain.search.Symbol.code)
      (λ κs (t, (m, (f, _))) r (_, (m', (f', _))). (g : PlainResult) → r ≡ Ok g
      → P t.now g (lent m.now f.now []) (lent m'.now f'.now []))
