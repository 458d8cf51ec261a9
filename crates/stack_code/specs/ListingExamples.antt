-- The listings of the two programs that code_rules computes, worked out by hand from docs/LANGUAGE.md, Code.
use Rattle.std.specs.Prelude.{ℕ, List, [], ◌∷◌, ◌++◌, codes}

abbrev pub lines : List (List ℕ) → List ℕ
lines [] = []
lines (l ∷ ls) = l ++ 10 ∷ lines ls

-- the function twice, the processes Producer and OrcaMain, and of Pool its making, Put and Take
abbrev pub a_listing : List ℕ
a_listing =
    lines (
    codes "0 get 0" ∷ codes "1 get 0" ∷ codes "2 add" ∷ codes "3 result" ∷ codes "4 missing" ∷ codes "5 get 1" ∷ codes "6 call 2 in" ∷
    codes "7 invoke 1 0 0" ∷ codes "8 pop" ∷ codes "9 end" ∷ codes "10 make 1 1" ∷ codes "11 pop" ∷ codes "12 int 1" ∷ codes "13 int 2" ∷
    codes "14 count 2 21" ∷ codes "15 turn" ∷ codes "16 get 2" ∷ codes "17 call 2 in" ∷ codes "18 invoke 1 0 1" ∷ codes "19 pop" ∷
    codes "20 upto 2 15" ∷ codes "21 get 1" ∷ codes "22 int 7" ∷ codes "23 fork 0" ∷ codes "24 pop" ∷ codes "25 invoke 1 1 1" ∷
    codes "26 put 0" ∷ codes "27 get 0" ∷ codes "28 line 1" ∷ codes "29 invoke 0 0 0" ∷ codes "30 pop" ∷ codes "31 end" ∷
    codes "32 int 9" ∷ codes "33 insert 0" ∷ codes "34 end" ∷ codes "35 get 0" ∷ codes "36 insert 1" ∷ codes "37 return" ∷
    codes "38 get 0" ∷ codes "39 size" ∷ codes "40 int 0" ∷ codes "41 gt" ∷ codes "42 guard 46" ∷ codes "43 least 0" ∷
    codes "44 result" ∷ codes "45 missing" ∷ codes "46 blocked" ∷ [])

-- the function fill, and the processes Worker and OrcaMain
abbrev pub rows_listing : List ℕ
rows_listing =
    lines (
    codes "0 get 0" ∷ codes "1 put 1 0" ∷ codes "2 text 0" ∷ codes "3 text 1" ∷ codes "4 concat" ∷ codes "5 put 1 1" ∷ codes "6 return" ∷
    codes "7 get 0" ∷ codes "8 line 1" ∷ codes "9 invoke 0 0 0" ∷ codes "10 pop" ∷ codes "11 end" ∷ codes "12 jump 47" ∷
    codes "13 turn" ∷ codes "14 get 3" ∷ codes "15 int 1" ∷ codes "16 add" ∷ codes "17 put 3" ∷ codes "18 get 3" ∷ codes "19 int 10" ∷
    codes "20 mul" ∷ codes "21 get 3" ∷ codes "22 call 1 in out 0 []" ∷ codes "23 pop" ∷ codes "24 get 3" ∷ codes "25 int 1" ∷
    codes "26 eq" ∷ codes "27 and 32" ∷ codes "28 get 3" ∷ codes "29 get 0 [] 0" ∷ codes "30 int 10" ∷ codes "31 eq" ∷
    codes "32 unless 40" ∷ codes "33 addnode out 1" ∷ codes "34 put 2" ∷ codes "35 get 2" ∷ codes "36 get 3" ∷ codes "37 get 0 [] 0" ∷
    codes "38 put 1 @" ∷ codes "39 jump 47" ∷ codes "40 get 2" ∷ codes "41 get 2" ∷ codes "42 get 1 @" ∷ codes "43 get 3" ∷
    codes "44 get 0 [] 0" ∷ codes "45 add" ∷ codes "46 put 1 @" ∷ codes "47 get 3" ∷ codes "48 int 2" ∷ codes "49 lt" ∷
    codes "50 unless 52" ∷ codes "51 jump 13" ∷ codes "52 int 2" ∷ codes "53 get 0 [] 0" ∷ codes "54 int 3" ∷ codes "55 forkon 0" ∷
    codes "56 pop" ∷ codes "57 int 1" ∷ codes "58 get 0 [] 1" ∷ codes "59 get 2" ∷ codes "60 get 1 @" ∷ codes "61 line 2" ∷
    codes "62 invoke 0 0 0" ∷ codes "63 pop" ∷ codes "64 get 2" ∷ codes "65 deletenode in out 1" ∷ codes "66 pop" ∷ codes "67 get 2" ∷
    codes "68 get 1 @" ∷ codes "69 line 1" ∷ codes "70 invoke 0 0 0" ∷ codes "71 pop" ∷ codes "72 end" ∷ [])
