-- "Writing and reading back gives the same job", and reading and writing gives the same bytes. Assumes nothing.
use mathlib.Core.Path.{◌≡◌, refl, sym, ap, ap₂, ◌∙◌, subst}
use mathlib.Core.Bool.{Bool, true, false, cond}
use mathlib.Core.List.{List, [], ◌++◌, map}
use Prim.Native.Nat.{ℕ, ◌+◌, ◌^◌, ◌≤◌, ◌<◌}
use native.Mathlib.Omega.{arith}
use borrow.Author.Tests.{eq-eqb, eqb-true, eqb-false}
use lib.Dec.{eqb}
use lib.ListN.{length, length-append, length-map}
use Rattle.layout.specs.declared.View.{View}
use Rattle.job_bytes.specs.Fields.{Field, read, fault, and_then, bytes_of, words_of, word_of, number_at, byte_at}
use Rattle.job_bytes.specs.Below.{AllBelow}
use Rattle.job_bytes.proofs.Putting.{length-bytes, length-words}
use Rattle.job_bytes.proofs.Reading.{then-read, byte-range, fault-read}
use Rattle.job_bytes.proofs.Back.{Here, Number, here-all, here-whole, here-front, here-behind, here-both, number-held, number-holds, byte-held, byte-holds}
use Rattle.job.specs.declared.Kind.{Kind}
use Rattle.job.specs.declared.Kind.TheVariants as K
use Rattle.job.specs.declared.Element.{Element}
use Rattle.job.specs.declared.Element.TheVariants as E
use Rattle.job.specs.declared.List16.{List16}
use Rattle.job.specs.declared.Views.{Views}
use Rattle.job.specs.declared.Spec.{Spec}
use Rattle.job.specs.declared.Job.{Job}
use Rattle.job.specs.Jobs.{held_list, views_of, spec_of}
use Rattle.job.specs.Format.{kind_byte, kind_of, element_byte, element_of, view_bytes, list_bytes, sizes_bytes, spec_bytes, views_bytes, body_bytes, encoded, view_most, list_most, views_most, spec_most, view_at, list_at, sizes_at, spec_at, views_at, count_at, head_at, job_at}
use Rattle.job_bytes.specs.Version.{version}
use Rattle.job.specs.Made.{MadeView, MadeList, MadeSizes, MadeSpec, Made}
use Rattle.job.proofs.PartsBack.{list-bytes, view-bytes, list_held, ListRead, list-holds, view-held, view-holds}

-- ---- the sizes of a spec
made-list-held : (bs : List ℕ) (at : ℕ) (l : List16) (k : ℕ) (m : MadeList l) → Here bs at (list_bytes l) k → list_at bs at ≡ read m.entries k
made-list-held bs at l k m p = list_held bs at m.entries k m.few m.words (subst (λ (x : List16). Here bs at (list_bytes x) k) m.is p)

pub record SizesRead (kind : Kind) (bs : List ℕ) (at : ℕ) (l : List ℕ) (k : ℕ) : Type 0 where
  pub here : Here bs at (sizes_bytes kind (held_list l)) k
  pub made : MadeSizes kind (held_list l)

sizes-held : (kind : Kind) (bs : List ℕ) (at : ℕ) (l : List16) (k : ℕ) → MadeSizes kind l → Here bs at (sizes_bytes kind l) k → (xs : List ℕ) × (l ≡ held_list xs) × (sizes_at kind bs at ≡ read xs k)
unfolding sizes_at
sizes-held K.Gather bs at l k m p = (m.entries, m.is, made-list-held bs at l k m p)
sizes-held K.Scatter bs at l k m p = ([], m, ap (read []) (omega (arith, p.place)))

sizes-hold : (kind : Kind) (bs : List ℕ) (at : ℕ) (l : List ℕ) (k : ℕ) → at ≤ length bs → AllBelow 256 bs → sizes_at kind bs at ≡ read l k → SizesRead kind bs at l k
unfolding sizes_at
sizes-hold K.Gather bs at l k h a e =
    let x = list-holds bs at l k a e in
    record { here = x.here; made = record { entries = l; is = refl; few = x.few; words = x.words } }
sizes-hold K.Scatter bs at l k h a e =
    let f : [] ≡ l = cc in
    let g : at ≡ k = cc in
    record { here = record { room = omega arith; here = refl; place = omega arith }; made = ap held_list (sym f) }

-- ---- a spec
spec_is : (s : Spec) (a b c d : List ℕ) → s.window_dims ≡ held_list a → s.unit_dims ≡ held_list b → s.start_map ≡ held_list c → s.slice_sizes ≡ held_list d → s ≡ spec_of a b c s.index_vector_dim d
spec_is s a b c d e f g h = λ i. record { window_dims = e i; unit_dims = f i; start_map = g i; index_vector_dim = s.index_vector_dim; slice_sizes = h i }

pub spec-held : (kind : Kind) (bs : List ℕ) (at : ℕ) (s : Spec) (k : ℕ) → MadeSpec kind s → Here bs at (spec_bytes kind s) k → spec_at kind bs at ≡ read s k
unfolding spec_bytes spec_at
spec-held kind bs at s k m p =
    let b1 : List ℕ = list_bytes s.window_dims in
    let b2 : List ℕ = list_bytes s.unit_dims in
    let b3 : List ℕ = list_bytes s.start_map in
    let b4 : List ℕ = bytes_of 8 s.index_vector_dim in
    let b5 : List ℕ = sizes_bytes kind s.slice_sizes in
    let k1 : ℕ = at + length b1 in
    let k2 : ℕ = at + length b1 + length b2 in
    let k3 : ℕ = at + length b1 + length b2 + length b3 in
    let k4 : ℕ = at + length b1 + length b2 + length b3 + length b4 in
    let q2 : Here bs k1 (b2 ++ (b3 ++ (b4 ++ b5))) k = here-behind bs at b1 (b2 ++ (b3 ++ (b4 ++ b5))) k p in
    let q3 : Here bs k2 (b3 ++ (b4 ++ b5)) k = here-behind bs k1 b2 (b3 ++ (b4 ++ b5)) k q2 in
    let q4 : Here bs k3 (b4 ++ b5) k = here-behind bs k2 b3 (b4 ++ b5) k q3 in
    let q5 : Here bs k4 b5 k = here-behind bs k3 b4 b5 k q4 in
    let e1 : list_at bs at ≡ read m.window.entries k1 = made-list-held bs at s.window_dims k1 m.window (here-front bs at b1 (b2 ++ (b3 ++ (b4 ++ b5))) k p) in
    let e2 : list_at bs k1 ≡ read m.unit.entries k2 = made-list-held bs k1 s.unit_dims k2 m.unit (here-front bs k1 b2 (b3 ++ (b4 ++ b5)) k q2) in
    let e3 : list_at bs k2 ≡ read m.start.entries k3 = made-list-held bs k2 s.start_map k3 m.start (here-front bs k2 b3 (b4 ++ b5) k q3) in
    let e4 : number_at 8 bs k3 ≡ read s.index_vector_dim k4 = number-held 8 bs k3 s.index_vector_dim k4 m.vector (here-front bs k3 b4 b5 k q4) in
    let t : (xs : List ℕ) × (s.slice_sizes ≡ held_list xs) × (sizes_at kind bs k4 ≡ read xs k) = sizes-held kind bs k4 s.slice_sizes k m.sizes q5 in
    let e5 : sizes_at kind bs k4 ≡ read t.0 k = t.2 in
    let z : spec_of m.window.entries m.unit.entries m.start.entries s.index_vector_dim t.0 ≡ s = sym (spec_is s m.window.entries m.unit.entries m.start.entries t.0 m.window.is m.unit.is m.start.is t.1) in
    rw (e1, e2, e3, e4, e5) (ap (λ (x : Spec). read x k) z)

pub record SpecRead (kind : Kind) (bs : List ℕ) (at : ℕ) (s : Spec) (k : ℕ) : Type 0 where
  pub here : Here bs at (spec_bytes kind s) k
  pub made : MadeSpec kind s

made_of : (bs : List ℕ) (at : ℕ) (l : List ℕ) (k : ℕ) → ListRead bs at l k → MadeList (held_list l)
made_of bs at l k x = record { entries = l; is = refl; few = x.few; words = x.words }

spec-whole : (kind : Kind) (bs : List ℕ) (at : ℕ) (window : List ℕ) (k : ℕ) (unit : List ℕ) (l : ℕ) (start : List ℕ) (m v o : ℕ) (sizes : List ℕ) (p : ℕ)
    → ListRead bs at window k → ListRead bs k unit l → ListRead bs l start m → Number 8 bs m v o → SizesRead kind bs o sizes p → SpecRead kind bs at (spec_of window unit start v sizes) p
unfolding spec_bytes
spec-whole kind bs at window k unit l start m v o sizes p x1 x2 x3 x4 x5 =
    let b1 : List ℕ = list_bytes (held_list window) in
    let b2 : List ℕ = list_bytes (held_list unit) in
    let b3 : List ℕ = list_bytes (held_list start) in
    let b4 : List ℕ = bytes_of 8 v in
    let b5 : List ℕ = sizes_bytes kind (held_list sizes) in
    record {
      here =
          here-both bs at b1 (b2 ++ (b3 ++ (b4 ++ b5))) k p x1.here
          (here-both bs k b2 (b3 ++ (b4 ++ b5)) l p x2.here
          (here-both bs l b3 (b4 ++ b5) m p x3.here
          (here-both bs m b4 b5 o p x4.here x5.here)));
      made = record { window = made_of bs at window k x1; unit = made_of bs k unit l x2; start = made_of bs l start m x3; vector = x4.below; sizes = x5.made };
    }

pub spec-holds : (kind : Kind) (bs : List ℕ) (at : ℕ) (s : Spec) (k : ℕ) → AllBelow 256 bs → spec_at kind bs at ≡ read s k → SpecRead kind bs at s k
unfolding spec_at
spec-holds kind bs at s k a e =
    let p1 = then-read (list_at bs at) _ s k e in
    let p2 = then-read (list_at bs p1.1) _ s k p1.3 in
    let p3 = then-read (list_at bs p2.1) _ s k p2.3 in
    let p4 = then-read (number_at 8 bs p3.1) _ s k p3.3 in
    let p5 = then-read (sizes_at kind bs p4.1) (λ sizes m. read (spec_of p1.0 p2.0 p3.0 p4.0 sizes) m) s k p4.3 in
    go p1.0 p1.1 p2.0 p2.1 p3.0 p3.1 p4.0 p4.1 p5.0 p5.1 p1.2 p2.2 p3.2 p4.2 p5.2 p5.3
  where
    go : (window : List ℕ) (i : ℕ) (unit : List ℕ) (l : ℕ) (start : List ℕ) (m v o : ℕ) (sizes : List ℕ) (p : ℕ) → list_at bs at ≡ read window i → list_at bs i ≡ read unit l → list_at bs l ≡ read start m → number_at 8 bs m ≡ read v o → sizes_at kind bs o ≡ read sizes p → read (spec_of window unit start v sizes) p ≡ read s k → SpecRead kind bs at s k
    go window i unit l start m v o sizes p e1 e2 e3 e4 e5 e =
        let x4 : Number 8 bs m v o = number-holds 8 bs m v o a e4 in
        let f : spec_of window unit start v sizes ≡ s = cc in
        let g : p ≡ k = cc in
        let w : SpecRead kind bs at (spec_of window unit start v sizes) p = spec-whole kind bs at window i unit l start m v o sizes p (list-holds bs at window i a e1) (list-holds bs i unit l a e2) (list-holds bs l start m a e3) x4 (sizes-hold kind bs o sizes p (omega (arith, x4.here.place, x4.here.room)) a e5) in
        subst (λ (j : ℕ). SpecRead kind bs at s j) g (subst (λ (u : Spec). SpecRead kind bs at u p) f w)

-- ---- three views
module _ (bs : List ℕ) (at : ℕ) (vs : Views) (k : ℕ) where
  pub views-held : MadeView vs.first → MadeView vs.second → MadeView vs.third → Here bs at (views_bytes vs) k → views_at bs at ≡ read vs k
  unfolding views_bytes views_at
  views-held m n o p =
      let b1 : List ℕ = view_bytes vs.first in
      let b2 : List ℕ = view_bytes vs.second in
      let b3 : List ℕ = view_bytes vs.third in
      let q2 : Here bs (at + length b1) (b2 ++ b3) k = here-behind bs at b1 (b2 ++ b3) k p in
      let q3 : Here bs (at + length b1 + length b2) b3 k = here-behind bs (at + length b1) b2 b3 k q2 in
      let e1 : view_at bs at ≡ read vs.first (at + length b1) = view-held bs at vs.first (at + length b1) m (here-front bs at b1 (b2 ++ b3) k p) in
      let e2 : view_at bs (at + length b1) ≡ read vs.second (at + length b1 + length b2) = view-held bs (at + length b1) vs.second (at + length b1 + length b2) n (here-front bs (at + length b1) b2 b3 k q2) in
      let e3 : view_at bs (at + length b1 + length b2) ≡ read vs.third k = view-held bs (at + length b1 + length b2) vs.third k o q3 in
      rw (e1, e2, e3)

  pub record ViewsRead : Type 0 where
    pub here : Here bs at (views_bytes vs) k
    pub first : MadeView vs.first
    pub second : MadeView vs.second
    pub third : MadeView vs.third

pub views-hold : (bs : List ℕ) (at : ℕ) (vs : Views) (k : ℕ) → AllBelow 256 bs → views_at bs at ≡ read vs k → ViewsRead bs at vs k
unfolding views_bytes views_at
views-hold bs at vs k a e =
    let p1 = then-read (view_at bs at) _ vs k e in
    let p2 = then-read (view_at bs p1.1) _ vs k p1.3 in
    let p3 = then-read (view_at bs p2.1) (λ c m. read (views_of p1.0 p2.0 c) m) vs k p2.3 in
    let x1 = view-holds bs at p1.0 p1.1 a p1.2 in
    let x2 = view-holds bs p1.1 p2.0 p2.1 a p2.2 in
    let x3 = view-holds bs p2.1 p3.0 p3.1 a p3.2 in
    let t : Views = views_of p1.0 p2.0 p3.0 in
    let f : t ≡ vs = cc p3.3 in
    let g : p3.1 ≡ k = cc p3.3 in
    let h : Here bs at (views_bytes t) p3.1 =
    here-both bs at (view_bytes p1.0) (view_bytes p2.0 ++ view_bytes p3.0) p1.1 p3.1 x1.here
    (here-both bs p1.1 (view_bytes p2.0) (view_bytes p3.0) p2.1 p3.1 x2.here x3.here) in
    let r : ViewsRead bs at t p3.1 = record { here = h; first = x1.made; second = x2.made; third = x3.made } in
    subst (λ (i : ℕ). ViewsRead bs at vs i) g (subst (λ (u : Views). ViewsRead bs at u p3.1) f r)

-- ---- kind and element as bytes
kind-back : (k : Kind) → kind_of (kind_byte k) ≡ k
kind-back K.Gather = refl
kind-back K.Scatter = refl

element-back : (e : Element) → element_of (element_byte e) ≡ e
element-back E.I32 = refl
element-back E.F64 = refl

kind-listed : (k : Kind) → (1 ≤ kind_byte k) × (kind_byte k ≤ 2)
kind-listed K.Gather = (omega arith, omega arith)
kind-listed K.Scatter = (omega arith, omega arith)

element-listed : (e : Element) → (1 ≤ element_byte e) × (element_byte e ≤ 2)
element-listed E.I32 = (omega arith, omega arith)
element-listed E.F64 = (omega arith, omega arith)

kind-byte : (b : ℕ) → 1 ≤ b → b ≤ 2 → kind_byte (kind_of b) ≡ b
kind-byte b l h = go (eqb b 1) refl
  where
    go : (t : Bool) → eqb b 1 ≡ t → kind_byte (cond (eqb b 1) K.Gather K.Scatter) ≡ b
    go true e = rw e (sym (eqb-true b 1 e))
    go false e = rw e (omega (arith, eqb-false b 1 e))

element-byte : (b : ℕ) → 1 ≤ b → b ≤ 2 → element_byte (element_of b) ≡ b
element-byte b l h = go (eqb b 1) refl
  where
    go : (t : Bool) → eqb b 1 ≡ t → element_byte (cond (eqb b 1) E.I32 E.F64) ≡ b
    go true e = rw e (sym (eqb-true b 1 e))
    go false e = rw e (omega (arith, eqb-false b 1 e))

-- ---- a made job is short enough for its count
short-view : (v : View) → MadeView v → length (view_bytes v) ≤ view_most
short-view v m =
    let es : List ℕ = m.extents in
    let ws : List ℕ = map word_of m.strides in
    let e : length (view_bytes v) ≡ length (bytes_of 1 (length es) ++ (words_of es ++ (words_of ws ++ bytes_of 8 (word_of m.offset)))) = ap length (ap view_bytes m.is ∙ view-bytes es m.strides m.offset m.same m.few) in
    omega (arith, m.few, m.same, length-append (bytes_of 1 (length es)) (words_of es ++ (words_of ws ++ bytes_of 8 (word_of m.offset))), length-append (words_of es) (words_of ws ++ bytes_of 8 (word_of m.offset)), length-append (words_of ws) (bytes_of 8 (word_of m.offset)), length-bytes 1 (length es), length-bytes 8 (word_of m.offset), length-words es, length-words ws, length-map m.strides word_of)

short-list : (l : List16) → MadeList l → length (list_bytes l) ≤ list_most
short-list l m =
    let xs : List ℕ = m.entries in
    let e : length (list_bytes l) ≡ length (bytes_of 1 (length xs) ++ words_of xs) = ap length (ap list_bytes m.is ∙ list-bytes xs m.few) in
    omega (arith, m.few, length-append (bytes_of 1 (length xs)) (words_of xs), length-bytes 1 (length xs), length-words xs)

short-sizes : (kind : Kind) (l : List16) → MadeSizes kind l → length (sizes_bytes kind l) ≤ list_most
short-sizes K.Gather l m = short-list l m
short-sizes K.Scatter l m = omega arith

short-body : (j : Job) → Made j → length (body_bytes j) < 2 ^ 32
unfolding body_bytes views_bytes spec_bytes
short-body j m =
    let a1 : List ℕ = bytes_of 1 version in
    let a2 : List ℕ = bytes_of 1 (kind_byte j.kind) in
    let a3 : List ℕ = bytes_of 1 (element_byte j.element) in
    let b1 : List ℕ = view_bytes j.views.first in
    let b2 : List ℕ = view_bytes j.views.second in
    let b3 : List ℕ = view_bytes j.views.third in
    let c1 : List ℕ = list_bytes j.spec.window_dims in
    let c2 : List ℕ = list_bytes j.spec.unit_dims in
    let c3 : List ℕ = list_bytes j.spec.start_map in
    let c4 : List ℕ = bytes_of 8 j.spec.index_vector_dim in
    let c5 : List ℕ = sizes_bytes j.kind j.spec.slice_sizes in
    let c : List ℕ = c1 ++ (c2 ++ (c3 ++ (c4 ++ c5))) in
    let lc : length c ≤ spec_most = omega (arith, length-append c1 (c2 ++ (c3 ++ (c4 ++ c5))), length-append c2 (c3 ++ (c4 ++ c5)), length-append c3 (c4 ++ c5), length-append c4 c5, length-bytes 8 j.spec.index_vector_dim, short-list j.spec.window_dims m.spec.window, short-list j.spec.unit_dims m.spec.unit, short-list j.spec.start_map m.spec.start, short-sizes j.kind j.spec.slice_sizes m.spec.sizes) in
    let b : List ℕ = b1 ++ (b2 ++ b3) in
    let lb : length b ≤ views_most = omega (arith, length-append b1 (b2 ++ b3), length-append b2 b3, short-view j.views.first m.first, short-view j.views.second m.second, short-view j.views.third m.third) in
    omega (arith, lb, lc, length-append a1 (a2 ++ (a3 ++ (b ++ c))), length-append a2 (a3 ++ (b ++ c)), length-append a3 (b ++ c), length-append b c, length-bytes 1 version, length-bytes 1 (kind_byte j.kind), length-bytes 1 (element_byte j.element))

-- ---- the whole job
-- what was written is read back: this job, and no byte left over
pub written_read : (j : Job) → Made j → job_at (encoded j) ≡ read j (length (encoded j))
unfolding encoded body_bytes count_at head_at job_at
written_read j m =
    let bs : List ℕ = encoded j in
    let n : ℕ = length (body_bytes j) in
    let b0 : List ℕ = bytes_of 4 n in
    let b1 : List ℕ = bytes_of 1 version in
    let b2 : List ℕ = bytes_of 1 (kind_byte j.kind) in
    let b3 : List ℕ = bytes_of 1 (element_byte j.element) in
    let b4 : List ℕ = views_bytes j.views in
    let b5 : List ℕ = spec_bytes j.kind j.spec in
    let k : ℕ = length bs in
    let k0 : ℕ = 0 + length b0 in
    let k1 : ℕ = 0 + length b0 + length b1 in
    let k2 : ℕ = 0 + length b0 + length b1 + length b2 in
    let k3 : ℕ = 0 + length b0 + length b1 + length b2 + length b3 in
    let k4 : ℕ = 0 + length b0 + length b1 + length b2 + length b3 + length b4 in
    let q0 : Here bs 0 (b0 ++ (b1 ++ (b2 ++ (b3 ++ (b4 ++ b5))))) k = here-all bs in
    let q1 : Here bs k0 (b1 ++ (b2 ++ (b3 ++ (b4 ++ b5)))) k = here-behind bs 0 b0 (b1 ++ (b2 ++ (b3 ++ (b4 ++ b5)))) k q0 in
    let q2 : Here bs k1 (b2 ++ (b3 ++ (b4 ++ b5))) k = here-behind bs k0 b1 (b2 ++ (b3 ++ (b4 ++ b5))) k q1 in
    let q3 : Here bs k2 (b3 ++ (b4 ++ b5)) k = here-behind bs k1 b2 (b3 ++ (b4 ++ b5)) k q2 in
    let q4 : Here bs k3 (b4 ++ b5) k = here-behind bs k2 b3 (b4 ++ b5) k q3 in
    let q5 : Here bs k4 b5 k = here-behind bs k3 b4 b5 k q4 in
    let e0 : number_at 4 bs 0 ≡ read n k0 = number-held 4 bs 0 n k0 (short-body j m) (here-front bs 0 b0 (b1 ++ (b2 ++ (b3 ++ (b4 ++ b5)))) k q0) in
    let s : length bs ≡ length b0 + n = length-append b0 (body_bytes j) in
    let t : eqb (k0 + n) (length bs) ≡ true = eq-eqb (k0 + n) (length bs) (omega arith) in
    let e1 : byte_at version version bs k0 ≡ read version k1 = byte-held version version bs k0 version k1 (omega arith) (omega arith) (omega arith) (here-front bs k0 b1 (b2 ++ (b3 ++ (b4 ++ b5))) k q1) in
    let lk : (1 ≤ kind_byte j.kind) × (kind_byte j.kind ≤ 2) = kind-listed j.kind in
    let le : (1 ≤ element_byte j.element) × (element_byte j.element ≤ 2) = element-listed j.element in
    let e2 : byte_at 1 2 bs k1 ≡ read (kind_byte j.kind) k2 = byte-held 1 2 bs k1 (kind_byte j.kind) k2 lk.0 lk.1 (omega (arith, lk.1)) (here-front bs k1 b2 (b3 ++ (b4 ++ b5)) k q2) in
    let e3 : byte_at 1 2 bs k2 ≡ read (element_byte j.element) k3 = byte-held 1 2 bs k2 (element_byte j.element) k3 le.0 le.1 (omega (arith, le.1)) (here-front bs k2 b3 (b4 ++ b5) k q3) in
    let e4 : views_at bs k3 ≡ read j.views k4 = views-held bs k3 j.views k4 m.first m.second m.third (here-front bs k3 b4 b5 k q4) in
    let e5 : spec_at j.kind bs k4 ≡ read j.spec k = spec-held j.kind bs k4 j.spec k m.spec q5 in
    let head : head_at bs ≡ read (j.kind, j.element) k3 = rw (e0, t, e1, e2, e3, kind-back j.kind, element-back j.element) in
    rw (head, e4, e5, eq-eqb k k refl)

-- what was read is written as it was: every accepted job is made, and its bytes are those that were read
pub record Accepted (bs : List ℕ) (j : Job) (k : ℕ) : Type 0 where
  pub bytes : encoded j ≡ bs
  pub all : k ≡ length bs
  pub made : Made j

count-read : (bs : List ℕ) (n k : ℕ) → count_at bs ≡ read n k → (number_at 4 bs 0 ≡ read n k) × (k + n ≡ length bs)
unfolding count_at
count-read bs n k e = go (number_at 4 bs 0) refl e
  where
    test : (t : Bool) (v l : ℕ) → eqb (l + v) (length bs) ≡ t → number_at 4 bs 0 ≡ read v l → cond t (read v l) (fault 0) ≡ read n k → (number_at 4 bs 0 ≡ read n k) × (k + n ≡ length bs)
    test true v l h q e =
        let f : v ≡ n = cc in
        let g : l ≡ k = cc in
        (q ∙ e, ap₂ ◌+◌ (sym g) (sym f) ∙ eqb-true (l + v) (length bs) h)
    test false v l h q e = absurd (fault-read e)

    go : (f : Field ℕ) → number_at 4 bs 0 ≡ f → and_then f (λ v l. cond (eqb (l + v) (length bs)) (read v l) (fault 0)) ≡ read n k → (number_at 4 bs 0 ≡ read n k) × (k + n ≡ length bs)
    go (read v l) q e = test (eqb (l + v) (length bs)) v l refl q e
    go (fault l) q e = absurd (fault-read e)

record HeadRead (bs : List ℕ) (h : Kind × Element) (k : ℕ) : Type 0 where
  n : ℕ
  k0 : ℕ
  k1 : ℕ
  k2 : ℕ
  count : Here bs 0 (bytes_of 4 n) k0
  first : Here bs k0 (bytes_of 1 version) k1
  kind : Here bs k1 (bytes_of 1 (kind_byte h.0)) k2
  element : Here bs k2 (bytes_of 1 (element_byte h.1)) k
  total : k0 + n ≡ length bs

head-holds : (bs : List ℕ) (h : Kind × Element) (k : ℕ) → AllBelow 256 bs → head_at bs ≡ read h k → HeadRead bs h k
unfolding head_at
head-holds bs h k a e =
    let p0 = then-read (count_at bs) _ h k e in
    let p1 = then-read (byte_at version version bs p0.1) _ h k p0.3 in
    let p2 = then-read (byte_at 1 2 bs p1.1) _ h k p1.3 in
    let p3 = then-read (byte_at 1 2 bs p2.1) (λ b m. read (kind_of p2.0, element_of b) m) h k p2.3 in
    let c = count-read bs p0.0 p0.1 p0.2 in
    let r1 = byte-range version version bs p0.1 p1.0 p1.1 p1.2 in
    let r2 = byte-range 1 2 bs p1.1 p2.0 p2.1 p2.2 in
    let r3 = byte-range 1 2 bs p2.1 p3.0 p3.1 p3.2 in
    let v : p1.0 ≡ version = omega (arith, r1.0, r1.1) in
    let t : Kind × Element = (kind_of p2.0, element_of p3.0) in
    let f : t ≡ h = cc p3.3 in
    let g : p3.1 ≡ k = cc p3.3 in
    let r : HeadRead bs t p3.1 =
    record {
      n = p0.0;
      k0 = p0.1;
      k1 = p1.1;
      k2 = p2.1;
      count = (number-holds 4 bs 0 p0.0 p0.1 a c.0).here;
      first = subst (λ (x : ℕ). Here bs p0.1 (bytes_of 1 x) p1.1) v (byte-holds version version bs p0.1 p1.0 p1.1 a p1.2);
      kind = subst (λ (x : ℕ). Here bs p1.1 (bytes_of 1 x) p2.1) (sym (kind-byte p2.0 r2.0 r2.1)) (byte-holds 1 2 bs p1.1 p2.0 p2.1 a p2.2);
      element = subst (λ (x : ℕ). Here bs p2.1 (bytes_of 1 x) p3.1) (sym (element-byte p3.0 r3.0 r3.1)) (byte-holds 1 2 bs p2.1 p3.0 p3.1 a p3.2);
      total = c.1;
    } in
    subst (λ (i : ℕ). HeadRead bs h i) g (subst (λ (u : Kind × Element). HeadRead bs u p3.1) f r)

whole-read : (bs : List ℕ) (h : Kind × Element) (vs : Views) (s : Spec) (k l m : ℕ) → HeadRead bs h k → ViewsRead bs k vs l → SpecRead h.0 bs l s m → m ≡ length bs → Accepted bs (record { kind = h.0; element = h.1; views = vs; spec = s }) m
unfolding encoded body_bytes
whole-read bs h vs s k l m a v t e =
    let j : Job = record { kind = h.0; element = h.1; views = vs; spec = s } in
    let b1 : List ℕ = bytes_of 1 version in
    let b2 : List ℕ = bytes_of 1 (kind_byte h.0) in
    let b3 : List ℕ = bytes_of 1 (element_byte h.1) in
    let b4 : List ℕ = views_bytes vs in
    let b5 : List ℕ = spec_bytes h.0 s in
    let body : Here bs a.k0 (body_bytes j) m =
    here-both bs a.k0 b1 (b2 ++ (b3 ++ (b4 ++ b5))) a.k1 m a.first
    (here-both bs a.k1 b2 (b3 ++ (b4 ++ b5)) a.k2 m a.kind
    (here-both bs a.k2 b3 (b4 ++ b5) k m a.element
    (here-both bs k b4 b5 l m v.here t.here))) in
    let c : a.n ≡ length (body_bytes j) = omega (arith, body.place, a.total) in
    let all : Here bs 0 (bytes_of 4 (length (body_bytes j)) ++ body_bytes j) m = here-both bs 0 (bytes_of 4 (length (body_bytes j))) (body_bytes j) a.k0 m (subst (λ (x : ℕ). Here bs 0 (bytes_of 4 x) a.k0) c a.count) body in
    record { bytes = here-whole bs (encoded j) m all e; all = e; made = record { first = v.first; second = v.second; third = v.third; spec = t.made } }

pub read-written : (bs : List ℕ) (j : Job) (k : ℕ) → AllBelow 256 bs → job_at bs ≡ read j k → Accepted bs j k
unfolding job_at
read-written bs j k a e =
    let p1 = then-read (head_at bs) _ j k e in
    let p2 = then-read (views_at bs p1.1) _ j k p1.3 in
    let p3 = then-read (spec_at p1.0.0 bs p2.1) (λ spec m. cond (eqb m (length bs)) (read (record { kind = p1.0.0; element = p1.0.1; views = p2.0; spec = spec }) m) (fault m)) j k p2.3 in
    let x1 = head-holds bs p1.0 p1.1 a p1.2 in
    let x2 = views-hold bs p1.1 p2.0 p2.1 a p2.2 in
    let x3 = spec-holds p1.0.0 bs p2.1 p3.0 p3.1 a p3.2 in
    ends p1.0 p2.0 p3.0 p1.1 p2.1 p3.1 x1 x2 x3 (eqb p3.1 (length bs)) refl p3.3
  where
    ends : (h : Kind × Element) (vs : Views) (s : Spec) (l m o : ℕ) → HeadRead bs h l → ViewsRead bs l vs m → SpecRead h.0 bs m s o → (t : Bool) → eqb o (length bs) ≡ t → cond t (read (record { kind = h.0; element = h.1; views = vs; spec = s }) o) (fault o) ≡ read j k → Accepted bs j k
    ends h vs s l m o x y z true q e =
        let f : record { kind = h.0; element = h.1; views = vs; spec = s } ≡ j = cc in
        let g : o ≡ k = cc in
        subst (λ (i : ℕ). Accepted bs j i) g (subst (λ (u : Job). Accepted bs u o) f (whole-read bs h vs s l m o x y z (eqb-true o (length bs) q)))
    ends h vs s l m o x y z false q e = absurd (fault-read e)
