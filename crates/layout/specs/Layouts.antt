-- To be believed. The rank limit, and a layout by value from extents and strides: refusals 1 and 2. Definitions only.
use Rattle.std.specs.Prelude.{cond, List, ◌++◌, ℕ, ◌-◌, eqb, leb, length, take, replicate, ℤ, pos, Ok, Err}
use Rattle.layout.specs.declared.Layout.{Layout}
use Rattle.layout.specs.declared.MadeLayout.{MadeLayout}
use Rattle.layout.specs.Answers.{is_done, or_else, Answer}
use Rattle.layout.specs.declared.Refusal.TheVariants as F

-- "Rank is 0 to 8": `RAW_FUSED_RANK_LIMIT`
abbrev pub rank_limit : ℕ
rank_limit = 8

-- the first n of a list, filled up with d to n
unfoldable pub padded : {A : Type 0} → ℕ → A → List A → List A
padded n d xs = take n xs ++ replicate (n - length xs) d

-- a layout as it is held: its rank, and past it extents of 1 with strides of 0
abbrev pub layout_of : List ℕ → List ℤ → Layout
layout_of es ss = record { rank = length es; extents = padded rank_limit 1 es; strides = padded rank_limit (pos 0) ss }

-- what is read of it again
abbrev pub extents_of : Layout → List ℕ
extents_of l = take l.rank l.extents

abbrev pub strides_of : Layout → List ℤ
strides_of l = take l.rank l.strides

-- 1: "extents and strides differ in length"
abbrev pub stride_length : ℕ → ℕ → Answer
stride_length extents strides = cond (eqb strides extents) (Ok tt) (Err F.StrideLengthMismatch)

-- 2: "a layout has rank above 8; a = rank .., b = 8"
abbrev pub rank_at_most : ℕ → Answer
rank_at_most rank = cond (leb rank rank_limit) (Ok tt) (Err (F.RankTooLarge rank rank_limit))

-- where it is refused the layout of no axes stands in its place
abbrev pub refused_layout : Answer → MadeLayout
refused_layout x = record { answer = x; layout = record { rank = 0; extents = replicate rank_limit 1; strides = replicate rank_limit (pos 0) } }

abbrev pub made_by : Answer → Layout → MadeLayout
made_by x l = cond (is_done x) (record { answer = x; layout = l }) (refused_layout x)

-- 1, then 2, then the layout
unfoldable pub layout_from : List ℕ → List ℤ → MadeLayout
layout_from es ss = made_by (or_else (stride_length (length es) (length ss)) (rank_at_most (length es))) (layout_of es ss)
