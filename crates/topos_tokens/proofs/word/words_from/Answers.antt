use Rattle.std.proofs.Common.{refl, arith}
use Rattle.topos_text.specs.Spelling.{word_of}
use Rattle.topos_tokens.proofs.Words.{no_word}
use Rattle.topos_tokens.proofs.word.words_from.Goals as goal

pub returns-in-79 : goal.returns-in-79
unfolding word_of
returns-in-79 c = rw c.in-79.is (λ cs. refl)

pub returns-in-80 : goal.returns-in-80
unfolding word_of
returns-in-80 c = rw c.in-80.is (λ cs. refl)

pub returns-in-97 : goal.returns-in-97
unfolding word_of
returns-in-97 c = rw c.in-97.is (λ cs. refl)

pub returns-in-98 : goal.returns-in-98
unfolding word_of
returns-in-98 c = rw c.in-98.is (λ cs. refl)

pub returns-in-99 : goal.returns-in-99
unfolding word_of
returns-in-99 c = rw c.in-99.is (λ cs. refl)

pub returns-in-100 : goal.returns-in-100
unfolding word_of
returns-in-100 c = rw c.in-100.is (λ cs. refl)

pub returns-in-101 : goal.returns-in-101
unfolding word_of
returns-in-101 c = rw c.in-101.is (λ cs. refl)

pub returns-in-102 : goal.returns-in-102
unfolding word_of
returns-in-102 c = rw c.in-102.is (λ cs. refl)

pub returns-in-104 : goal.returns-in-104
unfolding word_of
returns-in-104 c = rw c.in-104.is (λ cs. refl)

pub returns-in-105 : goal.returns-in-105
unfolding word_of
returns-in-105 c = rw c.in-105.is (λ cs. refl)

pub returns-in-108 : goal.returns-in-108
unfolding word_of
returns-in-108 c = rw c.in-108.is (λ cs. refl)

pub returns-in-109 : goal.returns-in-109
unfolding word_of
returns-in-109 c = rw c.in-109.is (λ cs. refl)

pub returns-in-110 : goal.returns-in-110
unfolding word_of
returns-in-110 c = rw c.in-110.is (λ cs. refl)

pub returns-in-111 : goal.returns-in-111
unfolding word_of
returns-in-111 c = rw c.in-111.is (λ cs. refl)

pub returns-in-112 : goal.returns-in-112
unfolding word_of
returns-in-112 c = rw c.in-112.is (λ cs. refl)

pub returns-in-114 : goal.returns-in-114
unfolding word_of
returns-in-114 c = rw c.in-114.is (λ cs. refl)

pub returns-in-115 : goal.returns-in-115
unfolding word_of
returns-in-115 c = rw c.in-115.is (λ cs. refl)

pub returns-in-116 : goal.returns-in-116
unfolding word_of
returns-in-116 c = rw c.in-116.is (λ cs. refl)

pub returns-in-117 : goal.returns-in-117
unfolding word_of
returns-in-117 c = rw c.in-117.is (λ cs. refl)

pub returns-in-118 : goal.returns-in-118
unfolding word_of
returns-in-118 c = rw c.in-118.is (λ cs. refl)

pub returns-in-119 : goal.returns-in-119
unfolding word_of
returns-in-119 c = rw c.in-119.is (λ cs. refl)

pub returns-in_default : goal.returns-in_default
returns-in_default c = λ cs. no_word c.args.letter cs (λ e. omega (arith, e), (λ e. omega (arith, e), (λ e. omega (arith, e), (λ e. omega (arith, e), (λ e. omega (arith, e), (λ e. omega (arith, e), (λ e. omega (arith, e), (λ e. omega (arith, e), (λ e. omega (arith, e), (λ e. omega (arith, e), (λ e. omega (arith, e), (λ e. omega (arith, e), (λ e. omega (arith, e), (λ e. omega (arith, e), (λ e. omega (arith, e), (λ e. omega (arith, e), (λ e. omega (arith, e), (λ e. omega (arith, e), (λ e. omega (arith, e), (λ e. omega (arith, e), (λ e. omega (arith, e), tt)))))))))))))))))))))
