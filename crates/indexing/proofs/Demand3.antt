-- Demand 3 over the definitions: what lands on an element, and a gather that sees nothing of a scatter, by any rule. Two scatters in either order
-- are in `rules`. Assumes nothing.
use Rattle.std.specs.Prelude.{◌≡◌, ◌≢◌, List, [], cond, ℕ, ◌<◌, length, get_or, ℤ, pos}
use Rattle.integer.specs.Defs.{eq_z}
use Rattle.indexing.specs.Coordinates.{product, element_at}
use Rattle.indexing.specs.Gather.{Gather, cells, read_at, gathered}
use Rattle.indexing.specs.Scatter.{Scatter, Update, batch_shape, window_shape, lands_at, update_at, placed_updates, combined, landing, scattered}
use Rattle.indexing.specs.Updates.{in_turn}
use Rattle.indexing.proofs.Updates.{element, missed, length-combined, rows-miss}
use Rattle.indexing.specs.Sums.{total}
use Rattle.indexing.proofs.Sums.{landing-rows}
use Rattle.indexing.specs.Axes.{sum_of}
use Rattle.indexing.proofs.Cells.{gathered-same}
use Rattle.indexing.specs.Demand3.{gets, Unseen}

-- ---- scatters

-- a scatter leaves the slice as long as it was, by any rule
pub length-scattered : {A : Type 0} (rule : A → A → A) (d : A) (s : Scatter) (starts : List ℤ) (updates grid : List A) → length (scattered rule d s starts updates grid) ≡ length grid
unfolding scattered
length-scattered rule d s starts updates grid = length-combined rule d (placed_updates d s starts updates) grid

-- AN ELEMENT of a scatter holds its old value and then each update that lands on it, in order, by the rule
pub each-by : {A : Type 0} (rule : A → A → A) (d : A) (s : Scatter) (starts : List ℤ) (updates grid : List A) (i : ℕ) → i < length grid
    → get_or (scattered rule d s starts updates grid) i d ≡ in_turn rule (get_or grid i d) (landing (pos i) (placed_updates d s starts updates))
unfolding scattered
each-by rule d s starts updates grid i h = element rule d (placed_updates d s starts updates) grid i h

-- the sum of what an element gets, written out: over all batches and window cells, each update that lands there
pub gets-sum : (s : Scatter) (starts updates : List ℤ) (i : ℕ)
    → total (gets s starts updates i)
    ≡ sum_of (product (batch_shape s)) (λ b. sum_of (product (window_shape s)) (λ w. cond (eq_z (lands_at s starts b w) (pos i)) (element_at (pos 0) updates (update_at s b w)) (pos 0)))
unfolding placed_updates
gets-sum s starts updates i = landing-rows (pos i) (product (batch_shape s)) (product (window_shape s)) (λ b w. (lands_at s starts b w, element_at (pos 0) updates (update_at s b w)))

-- ---- what nothing lands on

none-lands : {A : Type 0} (d : A) (s : Scatter) (starts : List ℤ) (updates : List A) (p : ℤ) → ((b w : ℕ) → b < product (batch_shape s) → w < product (window_shape s) → lands_at s starts b w ≢ p)
    → landing p (placed_updates d s starts updates) ≡ []
unfolding placed_updates
none-lands d s starts updates p h = rows-miss p (product (batch_shape s)) (product (window_shape s)) (λ b w. (lands_at s starts b w, element_at d updates (update_at s b w))) h

-- an element that no update lands on stays, by any rule
pub stays : {A : Type 0} (rule : A → A → A) (d : A) (s : Scatter) (starts : List ℤ) (updates grid : List A) (i : ℕ)
    → ((b w : ℕ) → b < product (batch_shape s) → w < product (window_shape s) → lands_at s starts b w ≢ pos i)
    → get_or (combined rule d (placed_updates d s starts updates) grid) i d ≡ get_or grid i d
stays rule d s starts updates grid i h = missed rule d (placed_updates d s starts updates) grid (pos i) (none-lands d s starts updates (pos i) h)

-- a gather whose reads meet no update leaves the same, by any rule and of any elements
pub updates-unseen : {A : Type 0} (rule : A → A → A) (d : A) (g : Gather) (starts : List ℤ) (cs : List (Update A)) (grid into : List A) → ((k : ℕ) → k < cells g → landing (read_at g starts k) cs ≡ [])
    → gathered d g starts (combined rule d cs grid) into ≡ gathered d g starts grid into
updates-unseen rule d g starts cs grid into u = gathered-same d g starts (combined rule d cs grid) grid into (λ k h. missed rule d cs grid (read_at g starts k) (u k h))

-- A GATHER SEES NOTHING of a scatter that lands on no element that it reads: it leaves the same, as whole slices. For any elements and any rule.
pub unseen-by : {A : Type 0} (rule : A → A → A) (d : A) (g : Gather) (gstarts : List ℤ) (s : Scatter) (sstarts : List ℤ) (supdates grid into : List A) → Unseen g gstarts s sstarts
    → gathered d g gstarts (combined rule d (placed_updates d s sstarts supdates) grid) into ≡ gathered d g gstarts grid into
unseen-by rule d g gstarts s sstarts supdates grid into u =
    updates-unseen rule d g gstarts (placed_updates d s sstarts supdates) grid into (λ k h. none-lands d s sstarts supdates (read_at g gstarts k) (λ b w l m. u k b w h l m))
