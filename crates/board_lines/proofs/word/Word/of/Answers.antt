use Rattle.std.proofs.Common.{◌∙◌, arith}
use Rattle.board_lines.proofs.Letters.{named, unnamed, unnamed_empty}
use Rattle.board_lines.proofs.word.Word.of.Goals as goal

pub returns-in-97 : goal.returns-in-97
returns-in-97 c = c.of_a.ensures ∙ named c.args.word.now 97 c.in-97.is

pub returns-in-99 : goal.returns-in-99
returns-in-99 c = c.of_c.ensures ∙ named c.args.word.now 99 c.in-99.is

pub returns-in-100 : goal.returns-in-100
returns-in-100 c = c.of_d.ensures ∙ named c.args.word.now 100 c.in-100.is

pub returns-in-102 : goal.returns-in-102
returns-in-102 c = c.of_f.ensures ∙ named c.args.word.now 102 c.in-102.is

pub returns-in-103 : goal.returns-in-103
returns-in-103 c = c.of_g.ensures ∙ named c.args.word.now 103 c.in-103.is

pub returns-in-105 : goal.returns-in-105
returns-in-105 c = c.of_i.ensures ∙ named c.args.word.now 105 c.in-105.is

pub returns-in-106 : goal.returns-in-106
returns-in-106 c = c.of_j.ensures ∙ named c.args.word.now 106 c.in-106.is

pub returns-in-108 : goal.returns-in-108
returns-in-108 c = c.of_l.ensures ∙ named c.args.word.now 108 c.in-108.is

pub returns-in-109 : goal.returns-in-109
returns-in-109 c = c.of_m.ensures ∙ named c.args.word.now 109 c.in-109.is

pub returns-in-111 : goal.returns-in-111
returns-in-111 c = c.of_o.ensures ∙ named c.args.word.now 111 c.in-111.is

pub returns-in-112 : goal.returns-in-112
returns-in-112 c = c.of_p.ensures ∙ named c.args.word.now 112 c.in-112.is

pub returns-in-114 : goal.returns-in-114
returns-in-114 c = c.of_r.ensures ∙ named c.args.word.now 114 c.in-114.is

pub returns-in-115 : goal.returns-in-115
returns-in-115 c = c.of_s.ensures ∙ named c.args.word.now 115 c.in-115.is

pub returns-in-116 : goal.returns-in-116
returns-in-116 c = c.of_t.ensures ∙ named c.args.word.now 116 c.in-116.is

pub returns-in-117 : goal.returns-in-117
returns-in-117 c = c.of_u.ensures ∙ named c.args.word.now 117 c.in-117.is

pub returns-in_default-letter : goal.returns-in_default-letter
returns-in_default-letter c = unnamed c.args.word.now (λ h. omega (arith, h)) (λ h. omega (arith, h)) (λ h. omega (arith, h)) (λ h. omega (arith, h)) (λ h. omega (arith, h)) (λ h. omega (arith, h)) (λ h. omega (arith, h)) (λ h. omega (arith, h)) (λ h. omega (arith, h)) (λ h. omega (arith, h)) (λ h. omega (arith, h)) (λ h. omega (arith, h)) (λ h. omega (arith, h)) (λ h. omega (arith, h)) (λ h. omega (arith, h))

pub returns-in_default : goal.returns-in_default
returns-in_default c = unnamed_empty c.args.word.now c.in_default.len_below
