-- Views and lists written and read back, and read and written again. Assumes nothing.
use mathlib.Core.Path.{◌≡◌, refl, sym, ap, ap₂, ◌∙◌, subst}
use mathlib.Core.List.{List, [], ◌∷◌, ◌++◌, map}
use Prim.Native.Nat.{ℕ, ◌+◌, ◌^◌, ◌≤◌, ◌<◌, min}
use native.Mathlib.Omega.{arith}
use lib.ListN.{length, length-map}
use lib.IntN.{ℤ, pos}
use mir.Syntax.{w64}
use mir.Val.{SFits}
use mir.Facts.{to_z-of_z, of_z-to_z, Fits-of_z, sfits_to_z}
use Rattle.layout.specs.declared.View.{View}
use Rattle.layout.specs.Layouts.{rank_limit}
use Rattle.layout.proofs.Fill.{padded-back}
use Rattle.job_bytes.specs.Fields.{read, bytes_of, words_of, word_of, signed_of, number_at, byte_at, words_at}
use Rattle.job_bytes.specs.Below.{AllBelow, none, more, AllFit, fit_none, fit-more}
use Rattle.job_bytes.proofs.Reading.{then-read, byte-range, words_count}
use Rattle.job_bytes.proofs.Back.{Here, WordsHere, Number, here-front, here-behind, here-both, number-held, number-holds, byte-held, byte-holds, words-held, words-hold}
use Rattle.job.specs.Jobs.{held_list, view_of}
use Rattle.job.specs.Format.{view_bytes, list_bytes, view_at, list_at}
use Rattle.job_bytes.specs.Version.{stored_rank_limit, list_limit, stored-held}
use Rattle.job.specs.Made.{MadeView}

-- ---- two's complement there and back
word_fits : (z : ℤ) → SFits w64 z → word_of z < 2 ^ 64
word_fits z f = (Fits-of_z f).fits

words-signed : (zs : List ℤ) → AllFit zs → map signed_of (map word_of zs) ≡ zs
words-signed [] fit_none = refl
words-signed (z ∷ zs) (fit-more f a) = ap₂ ◌∷◌ (to_z-of_z f) (words-signed zs a)

words-below : (zs : List ℤ) → AllFit zs → AllBelow (2 ^ 64) (map word_of zs)
words-below [] fit_none = none
words-below (z ∷ zs) (fit-more f a) = more (word_fits z f) (words-below zs a)

signed-words : (ws : List ℕ) → AllBelow (2 ^ 64) ws → map word_of (map signed_of ws) ≡ ws
signed-words [] none = refl
signed-words (w ∷ ws) (more h a) = ap₂ ◌∷◌ (of_z-to_z {w = w64} (record { fits = h })) (signed-words ws a)

signed_fit : (ws : List ℕ) → AllBelow (2 ^ 64) ws → AllFit (map signed_of ws)
signed_fit [] none = fit_none
signed_fit (w ∷ ws) (more h a) = fit-more (sfits_to_z (record { fits = h })) (signed_fit ws a)

-- ---- what is written of a list and of a layout as they are held
pub list-bytes : (l : List ℕ) → length l ≤ list_limit → list_bytes (held_list l) ≡ bytes_of 1 (length l) ++ words_of l
unfolding list_bytes
list-bytes l h = rw (padded-back list_limit 0 (length l) l refl h)

pub view-bytes : (es : List ℕ) (ss : List ℤ) (o : ℤ) → length ss ≡ length es → length es ≤ stored_rank_limit → view_bytes (view_of es ss o) ≡ bytes_of 1 (length es) ++ (words_of es ++ (words_of (map word_of ss) ++ bytes_of 8 (word_of o)))
unfolding view_bytes
view-bytes es ss o e h =
    rw (padded-back rank_limit 1 (min (length es) stored_rank_limit) es (omega arith) (omega (arith, stored-held)), padded-back rank_limit (pos 0) (min (length es) stored_rank_limit) ss (omega arith) (omega (arith, stored-held)))

-- words as they were read
view-words : (n : ℕ) (es ws : List ℕ) (o : ℕ) → length es ≡ n → length ws ≡ n → n ≤ stored_rank_limit → AllBelow (2 ^ 64) ws → o < 2 ^ 64 → view_bytes (view_of es (map signed_of ws) (signed_of o)) ≡ bytes_of 1 n ++ (words_of es ++ (words_of ws ++ bytes_of 8 o))
view-words n es ws o e f h a b =
    let wo : word_of (signed_of o) ≡ o = of_z-to_z {w = w64} (record { fits = b }) in
    view-bytes es (map signed_of ws) (signed_of o) (length-map ws signed_of ∙ f ∙ sym e) (omega arith) ∙ rw (e, signed-words ws a, wo)

-- ---- a list
pub list_held : (bs : List ℕ) (at : ℕ) (l : List ℕ) (k : ℕ) → length l ≤ list_limit → AllBelow (2 ^ 64) l → Here bs at (list_bytes (held_list l)) k → list_at bs at ≡ read l k
unfolding list_at
list_held bs at l k h a p =
    let q : Here bs at (bytes_of 1 (length l) ++ words_of l) k = subst (λ (x : List ℕ). Here bs at x k) (list-bytes l h) p in
    let m : ℕ = at + length (bytes_of 1 (length l)) in
    let e : byte_at 0 list_limit bs at ≡ read (length l) m = byte-held 0 list_limit bs at (length l) m (omega arith) h (omega arith) (here-front bs at (bytes_of 1 (length l)) (words_of l) k q) in
    rw e (words-held bs m l k a (here-behind bs at (bytes_of 1 (length l)) (words_of l) k q))

pub record ListRead (bs : List ℕ) (at : ℕ) (l : List ℕ) (k : ℕ) : Type 0 where
  pub here : Here bs at (list_bytes (held_list l)) k
  pub few : length l ≤ list_limit
  pub words : AllBelow (2 ^ 64) l

pub list-holds : (bs : List ℕ) (at : ℕ) (l : List ℕ) (k : ℕ) → AllBelow 256 bs → list_at bs at ≡ read l k → ListRead bs at l k
unfolding list_at
list-holds bs at l k a e =
    let p = then-read (byte_at 0 list_limit bs at) (λ n m. words_at n bs m) l k e in
    let n : length l ≡ p.0 = words_count p.0 bs p.1 l k p.3 in
    let x : Here bs at (bytes_of 1 p.0) p.1 = byte-holds 0 list_limit bs at p.0 p.1 a p.2 in
    let y = words-hold p.0 bs p.1 l k (omega (arith, x.place, x.room)) a p.3 in
    let h : length l ≤ list_limit = omega (arith, (byte-range 0 list_limit bs at p.0 p.1 p.2).1) in
    record {
      here =
          subst (λ (t : List ℕ). Here bs at t k) (sym (list-bytes l h))
          (here-both bs at (bytes_of 1 (length l)) (words_of l) p.1 k (subst (λ (i : ℕ). Here bs at (bytes_of 1 i) p.1) (sym n) x) y.here);
      few = h;
      words = y.below;
    }

-- ---- a view
pub view-held : (bs : List ℕ) (at : ℕ) (v : View) (k : ℕ) → MadeView v → Here bs at (view_bytes v) k → view_at bs at ≡ read v k
unfolding view_at
view-held bs at v k made p =
    let es : List ℕ = made.extents in
    let ss : List ℤ = made.strides in
    let o : ℤ = made.offset in
    let b1 : List ℕ = bytes_of 1 (length es) in
    let b2 : List ℕ = words_of es in
    let b3 : List ℕ = words_of (map word_of ss) in
    let b4 : List ℕ = bytes_of 8 (word_of o) in
    let q : Here bs at (b1 ++ (b2 ++ (b3 ++ b4))) k = subst (λ (x : List ℕ). Here bs at x k) (ap view_bytes made.is ∙ view-bytes es ss o made.same made.few) p in
    let q2 : Here bs (at + length b1) (b2 ++ (b3 ++ b4)) k = here-behind bs at b1 (b2 ++ (b3 ++ b4)) k q in
    let q3 : Here bs (at + length b1 + length b2) (b3 ++ b4) k = here-behind bs (at + length b1) b2 (b3 ++ b4) k q2 in
    let q4 : Here bs (at + length b1 + length b2 + length b3) b4 k = here-behind bs (at + length b1 + length b2) b3 b4 k q3 in
    let e1 : byte_at 0 stored_rank_limit bs at ≡ read (length es) (at + length b1) = byte-held 0 stored_rank_limit bs at (length es) (at + length b1) (omega arith) made.few (omega (arith, made.few)) (here-front bs at b1 (b2 ++ (b3 ++ b4)) k q) in
    let e2 : words_at (length es) bs (at + length b1) ≡ read es (at + length b1 + length b2) = words-held bs (at + length b1) es (at + length b1 + length b2) made.words (here-front bs (at + length b1) b2 (b3 ++ b4) k q2) in
    let e3 : words_at (length es) bs (at + length b1 + length b2) ≡ read (map word_of ss) (at + length b1 + length b2 + length b3) = ap (λ (n : ℕ). words_at n bs (at + length b1 + length b2)) (sym made.same ∙ sym (length-map ss word_of)) ∙ words-held bs (at + length b1 + length b2) (map word_of ss) (at + length b1 + length b2 + length b3) (words-below ss made.fits) (here-front bs (at + length b1 + length b2) b3 b4 k q3) in
    let e4 : number_at 8 bs (at + length b1 + length b2 + length b3) ≡ read (word_of o) k = number-held 8 bs (at + length b1 + length b2 + length b3) (word_of o) k (word_fits o made.fit) q4 in
    let z : view_of es (map signed_of (map word_of ss)) (signed_of (word_of o)) ≡ v = ap₂ (λ (l : List ℤ) (i : ℤ). view_of es l i) (words-signed ss made.fits) (to_z-of_z made.fit) ∙ sym made.is in
    rw (e1, e2, e3, e4) (ap (λ (x : View). read x k) z)

pub record ViewRead (bs : List ℕ) (at : ℕ) (v : View) (k : ℕ) : Type 0 where
  pub here : Here bs at (view_bytes v) k
  pub made : MadeView v

view-whole : (bs : List ℕ) (at n k : ℕ) (es : List ℕ) (l : ℕ) (ws : List ℕ) (m o p : ℕ) → length es ≡ n → length ws ≡ n → n ≤ stored_rank_limit
    → Here bs at (bytes_of 1 n) k → WordsHere bs k es l → WordsHere bs l ws m → Number 8 bs m o p → ViewRead bs at (view_of es (map signed_of ws) (signed_of o)) p
view-whole bs at n k es l ws m o p e f h x1 x2 x3 x4 =
    record {
      here =
          subst (λ (b : List ℕ). Here bs at b p) (sym (view-words n es ws o e f h x3.below x4.below))
          (here-both bs at (bytes_of 1 n) (words_of es ++ (words_of ws ++ bytes_of 8 o)) k p x1
          (here-both bs k (words_of es) (words_of ws ++ bytes_of 8 o) l p x2.here
          (here-both bs l (words_of ws) (bytes_of 8 o) m p x3.here x4.here)));
      made = record { extents = es; strides = map signed_of ws; offset = signed_of o; is = refl; same = length-map ws signed_of ∙ f ∙ sym e; few = omega arith; words = x2.below; fits = signed_fit ws x3.below; fit = sfits_to_z (record { fits = x4.below }) };
    }

pub view-holds : (bs : List ℕ) (at : ℕ) (v : View) (k : ℕ) → AllBelow 256 bs → view_at bs at ≡ read v k → ViewRead bs at v k
unfolding view_at
view-holds bs at v k a e =
    let p = then-read (byte_at 0 stored_rank_limit bs at) _ v k e in
    let q = then-read (words_at p.0 bs p.1) _ v k p.3 in
    let r = then-read (words_at p.0 bs q.1) _ v k q.3 in
    let t = then-read (number_at 8 bs r.1) (λ o m. read (view_of q.0 (map signed_of r.0) (signed_of o)) m) v k r.3 in
    go p.0 p.1 q.0 q.1 r.0 r.1 t.0 t.1 p.2 q.2 r.2 t.2 t.3
  where
    go : (n l : ℕ) (es : List ℕ) (m : ℕ) (ws : List ℕ) (i o p : ℕ) → byte_at 0 stored_rank_limit bs at ≡ read n l → words_at n bs l ≡ read es m → words_at n bs m ≡ read ws i → number_at 8 bs i ≡ read o p → read (view_of es (map signed_of ws) (signed_of o)) p ≡ read v k → ViewRead bs at v k
    go n l es m ws i o p e1 e2 e3 e4 e =
        let x1 : Here bs at (bytes_of 1 n) l = byte-holds 0 stored_rank_limit bs at n l a e1 in
        let x2 : WordsHere bs l es m = words-hold n bs l es m (omega (arith, x1.place, x1.room)) a e2 in
        let x3 : WordsHere bs m ws i = words-hold n bs m ws i (omega (arith, x2.here.place, x2.here.room)) a e3 in
        let f : view_of es (map signed_of ws) (signed_of o) ≡ v = cc in
        let g : p ≡ k = cc in
        let w : ViewRead bs at (view_of es (map signed_of ws) (signed_of o)) p = view-whole bs at n l es m ws i o p (words_count n bs l es m e2) (words_count n bs m ws i e3) (byte-range 0 stored_rank_limit bs at n l e1).1 x1 x2 x3 (number-holds 8 bs i o p a e4) in
        subst (λ (j : ℕ). ViewRead bs at v j) g (subst (λ (u : View). ViewRead bs at u p) f w)
