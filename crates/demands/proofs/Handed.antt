-- What is handed back in the buffers: the theory's theorems, carried to the bytes.
use Rattle.prelude.proofs.{ℕ, ◌≤◌, ◌<◌, ◌≡◌, sym, ap, ◌∙◌, true, cond, List, length, get_or, take, take-append_seam, Ok}
use Rattle.prelude.proofs.{eq-eqb}
use Rattle.gametree.specs.declared.Side.{Side}
use Rattle.gametree.specs.declared.Side.TheVariants.{Max, Min}
use Rattle.lists.specs.{All, among}
use Rattle.lists.proofs.Lists.{all-at, once-length}
use Rattle.gametree.specs.{other, least, greatest, minimax, Proper, known, Decided, worst, flag}
use Rattle.gametree_theory.proofs.Searches.{Deciding}
use Rattle.gametree_theory.proofs.Minimax.Bounds.{every_map}
use Rattle.gametree_theory.proofs.Minimax.Grafts.{minimax-same}
use Rattle.gametree_theory.proofs.Tests.Subtree.{every-all}
use Rattle.gametree_theory.proofs.Certificates.ReadOff.{ReadOff}
use Rattle.gametree_theory.proofs.Certificates.Flags.{read-bounds}
use Rattle.table.specs.{frames, tree, valuation, WellFormed, Accepted, value_of}
use Rattle.table.proofs.Acceptance.{accepted-formed}
use Rattle.table.proofs.Proper.{every-leaf, tree-proper}
use Rattle.table_positions.proofs.Buffers.{written_at}
use Rattle.certificate_bounds.specs.{mark, marked, ones}
use Rattle.certificate_write.specs.{marks_of, flags_of}
use Rattle.certificate_write.proofs.Marks.{marked-written}
use Rattle.certificate_check.specs.{verdict, member}
use Rattle.certificate_check.specs.Certificate.{Certificate}
use Rattle.certificate_check.proofs.Theorems.{certificate-verdict}
use Rattle.methods.specs.declared.Method.TheVariants.{AlphaBeta}
use Rattle.methods.specs.declared.Findings.{Findings}
use Rattle.methods.specs.declared.Answer.TheVariants.{Found}
use Rattle.methods.specs.{evaluated_by, Lent}
use Rattle.methods.proofs.Rules as rules
use Rattle.best_line.proofs.Certified.{reads, written-certificate}
use Rattle.best_line.proofs.Certified as written
use Rattle.demands.specs.{Call, Given, count_of, Marked, CertifiedBy}
use Rattle.demands.proofs.Running.{Says}
use Rattle.demands.proofs.Views as views

-- the leaves w, which are nodes of the table t, are marked
pub record MarkedLeaves (t w : List ℕ) (lent left : Lent) : Type 0 where
  pub within : All (λ k. k < frames t) w
  pub marks : left.marks ≡ marks_of w t lent.marks

module _ {t w : List ℕ} {lent left : Lent} (m : MarkedLeaves t w lent left) where
  -- they are marked 1, and every other node 0
  pub marks-at : (k : ℕ) → k < frames t → get_or left.marks k 0 ≡ mark (among w) k
  marks-at k h =
      ap (λ x. get_or x k 0) m.marks ∙ written_at (mark (among w)) (frames t) k lent.marks h

  pub marked-at : (k : ℕ) → k < frames t → marked left.marks k ≡ among w k
  marked-at k h =
      ap (λ x. marked x k) m.marks ∙ marked-written (among w) (frames t) lent.marks k h

  pub marked-leaf : (k : ℕ) → Marked t left k → among w k ≡ true
  marked-leaf k n = sym (marked-at k n.node) ∙ eq-eqb _ _ n.mark

  pub leaf-marked : (k : ℕ) → among w k ≡ true → Marked t left k
  leaf-marked k e =
      let h = all-at (λ k. k < frames t) w m.within k e in
      record { node = h; mark = marks-at k h ∙ ap (λ b. cond b 1 0) e }

-- and decide: the flags are read off their bounds
pub record HandedBack (t w : List ℕ) (lent left : Lent) : Type 0 where
  pub accepted : Accepted t
  pub room : frames t ≤ length lent.flags
  pub deciding : Deciding (valuation t) (tree t) w
  pub marked : MarkedLeaves t w lent left
  pub flags : left.flags ≡ flags_of w t lent.flags

module _ {t w : List ℕ} {lent left : Lent} (handed : HandedBack t w lent left) where
  pub formed : WellFormed t
  formed = accepted-formed t handed.accepted

  pub proper : Proper (valuation t) (tree t)
  proper = tree-proper t formed

  -- the bounds of the leaves that are marked 1 meet at the minimax value
  pub marks-decided : Decided (valuation t) (marked left.marks) (tree t)
  marks-decided =
      let d = handed.deciding.decided in
      let same : (x : ℕ) → minimax (known (valuation t) (marked left.marks) x) (tree t)
      ≡ minimax (known (valuation t) (among w) x) (tree t) =
      λ x. minimax-same _ _ (tree t)
      (every-leaf t formed (λ n. known (valuation t) (marked left.marks) x n ≡ known (valuation t) (among w) x n)
      (λ i h _. ap (λ b. cond b (valuation t i) x) (marked-at handed.marked i h)) 0 formed.non_empty) in
      record { low_is = same least ∙ d.low_is; high_is = same greatest ∙ d.high_is }

  pub flags-at : (k : ℕ) → k < frames t → get_or left.flags k 0 ≡ flag (valuation t) (among w) (tree t) k
  flags-at k h =
      ap (λ x. get_or x k 0) handed.flags
      ∙ written.flags-at t handed.accepted w handed.deciding lent.flags handed.room k h

  -- the flags are a certificate
  pub certificate : Certificate t left.flags (minimax (valuation t) (tree t))
  certificate =
      rw handed.flags
      (written-certificate t handed.accepted w handed.deciding lent.flags handed.room)

  flagged : (p : Side)
      → ReadOff p (known (valuation t) (among w) (worst (other p))) (member p left.flags) true (tree t)
  flagged p = rw handed.flags (reads t handed.accepted w handed.deciding lent.flags handed.room p)

  set-marked : (k : ℕ) → among w k ≡ true → marked left.marks k ≡ true
  set-marked k h = marked-at handed.marked k (leaf-marked handed.marked k h).node ∙ h

  -- of the minimax value, by leaves that are marked 1 only
  pub flags-certify : CertifiedBy t left
  flags-certify =
      let d = handed.deciding.decided in
      let x = read-bounds Max (valuation t) (among w) (tree t) proper d _ (flagged Max) in
      let y = read-bounds Min (valuation t) (among w) (tree t) proper d _ (flagged Min) in
      record {
        certifies = certificate.certifies;
        max_leaves = every-all _ (tree t) (every_map _ _ (λ k f h. set-marked k (f h)) (tree t) x.2);
        min_leaves = every-all _ (tree t) (every_map _ _ (λ k f h. set-marked k (f h)) (tree t) y.2);
      }

  -- the check of certificates accepts them, and gives the minimax value
  pub flags-verified : verdict t left.flags ≡ Ok (value_of (minimax (valuation t) (tree t)))
  flags-verified = certificate-verdict t left.flags _ certificate

-- the leaves that a call evaluates
abbrev pub leaves_by : Call → List ℕ
leaves_by c = evaluated_by c.method c.table

module _ (c : Call) (s : Says c) where
  module _ (given : Given c) where
    -- they are marked
    pub marking : MarkedLeaves c.table (leaves_by c) c.lent c.left
    marking =
        record {
          within = rules.within c.table (views.formed c s given) c.method;
          marks = views.marks c s given;
        }

    -- the count is the number of marks at 1
    pub count_ones : count_of c.answer ≡ ones c.left.marks (frames c.table)
    count_ones =
        views.counted c s given
        ∙ sym (ap (λ x. ones x (frames c.table)) (views.marks c s given)
        ∙ rules.ones-count c.table (views.formed c s given) c.method c.lent.marks)

    -- each that is marked 1 is one that alpha-beta evaluates, and there are no more
    pub marks-reached : (k : ℕ) → Marked c.table c.left k → among (evaluated_by AlphaBeta c.table) k ≡ true
    marks-reached k m =
        all-at (λ k. among (evaluated_by AlphaBeta c.table) k ≡ true) (leaves_by c)
        (rules.dominated c.table (views.formed c s given) c.method) k (marked-leaf marking k m)

    pub count_most : count_of c.answer ≤ length (evaluated_by AlphaBeta c.table)
    count_most = rw (views.counted c s given) (rules.no_more c.table (views.formed c s given) c.method)

    -- the list begins with the leaves, as many as the count says
    pub first-leaves : take (count_of c.answer) c.left.order ≡ leaves_by c
    first-leaves =
        ap (λ n. take n c.left.order) (views.counted c s given)
        ∙ ap (take (length (leaves_by c))) (views.order c s given)
        ∙ take-append_seam (leaves_by c) _

  -- what a call with a result hands back
  pub handed : (g : Findings) → c.answer ≡ Found g → HandedBack c.table (leaves_by c) c.lent c.left
  handed g e =
      let given = views.found-given c s g e in
      record {
        accepted = views.accepted c s given;
        room = (views.room c s given).flags;
        deciding = rules.decides c.table (views.formed c s given) c.method (views.nothing-beyond c s g e);
        marked = marking given;
        flags = views.flags c s g e;
      }

-- a call that evaluates all leaves of another marks them, and counts no fewer
module _ (c d : Call) (s : Says c) (q : Says d) (gc : Given c) (gd : Given d)
    (all : All (λ k. among (leaves_by d) k ≡ true) (leaves_by c)) where
  pub marks-covered : (k : ℕ) → Marked c.table c.left k → Marked d.table d.left k
  marks-covered k m =
      leaf-marked (marking d q gd) k
      (all-at (λ k. among (leaves_by d) k ≡ true) (leaves_by c) all k (marked-leaf (marking c s gc) k m))

  pub count-covered : count_of c.answer ≤ count_of d.answer
  count-covered =
      rw (views.counted c s gc, views.counted d q gd)
      (once-length (leaves_by c) (leaves_by d) (rules.once c.table (views.formed c s gc) c.method) all)

-- so does one by alpha-beta with that table
module _ (c d : Call) (s : Says c) (q : Says d) (m : d.method ≡ AlphaBeta) (t : d.table ≡ c.table) (gc : Given c)
    (gd : Given d) where
  reaches : All (λ k. among (leaves_by d) k ≡ true) (leaves_by c)
  reaches = rw (m, t) (rules.dominated c.table (views.formed c s gc) c.method)

  pub dominated : (k : ℕ) → Marked c.table c.left k → Marked d.table d.left k
  dominated = marks-covered c d s q gc gd reaches

  pub no_more : count_of c.answer ≤ count_of d.answer
  no_more = count-covered c d s q gc gd reaches
