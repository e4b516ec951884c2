use Rattle.std.proofs.Common.{refl, arith}
use Rattle.std.specs.Str.{chars}
use Rattle.topos_text.specs.Spelling.{symbol_of}
use Rattle.topos_text.specs.declared.symbol.Symbol.TheVariants as symbols
use Rattle.topos_tokens.proofs.Fronts.{plain_front, no_symbol_front}
use Rattle.topos_tokens.proofs.Words.{no_symbol}
use Rattle.topos_tokens.proofs.symbol.symbol.Goals as goal

pub returns-in-59-clause-front : goal.returns-in-59-clause-front
unfolding symbol_of
returns-in-59-clause-front c = plain_front c.args.first 59 (chars c.args.behind.now) symbols.Semicolon c.in-59.is c.requires.no_name c.requires.no_place refl (λ z zs. refl)

pub returns-in-58-clause-front : goal.returns-in-58-clause-front
unfolding symbol_of
returns-in-58-clause-front c = plain_front c.args.first 58 (chars c.args.behind.now) symbols.Colon c.in-58.is c.requires.no_name c.requires.no_place refl (λ z zs. refl)

pub returns-in-44-clause-front : goal.returns-in-44-clause-front
unfolding symbol_of
returns-in-44-clause-front c = plain_front c.args.first 44 (chars c.args.behind.now) symbols.Comma c.in-44.is c.requires.no_name c.requires.no_place refl (λ z zs. refl)

pub returns-in-46-clause-front : goal.returns-in-46-clause-front
unfolding symbol_of
returns-in-46-clause-front c = plain_front c.args.first 46 (chars c.args.behind.now) symbols.Dot c.in-46.is c.requires.no_name c.requires.no_place refl (λ z zs. refl)

pub returns-in-123-clause-front : goal.returns-in-123-clause-front
unfolding symbol_of
returns-in-123-clause-front c = plain_front c.args.first 123 (chars c.args.behind.now) symbols.OpenBrace c.in-123.is c.requires.no_name c.requires.no_place refl (λ z zs. refl)

pub returns-in-125-clause-front : goal.returns-in-125-clause-front
unfolding symbol_of
returns-in-125-clause-front c = plain_front c.args.first 125 (chars c.args.behind.now) symbols.CloseBrace c.in-125.is c.requires.no_name c.requires.no_place refl (λ z zs. refl)

pub returns-in-40-clause-front : goal.returns-in-40-clause-front
unfolding symbol_of
returns-in-40-clause-front c = plain_front c.args.first 40 (chars c.args.behind.now) symbols.OpenParenthesis c.in-40.is c.requires.no_name c.requires.no_place refl (λ z zs. refl)

pub returns-in-41-clause-front : goal.returns-in-41-clause-front
unfolding symbol_of
returns-in-41-clause-front c = plain_front c.args.first 41 (chars c.args.behind.now) symbols.CloseParenthesis c.in-41.is c.requires.no_name c.requires.no_place refl (λ z zs. refl)

pub returns-in-124-clause-front : goal.returns-in-124-clause-front
unfolding symbol_of
returns-in-124-clause-front c = plain_front c.args.first 124 (chars c.args.behind.now) symbols.Bar c.in-124.is c.requires.no_name c.requires.no_place refl (λ z zs. refl)

pub returns-in-42-clause-front : goal.returns-in-42-clause-front
unfolding symbol_of
returns-in-42-clause-front c = plain_front c.args.first 42 (chars c.args.behind.now) symbols.Star c.in-42.is c.requires.no_name c.requires.no_place refl (λ z zs. refl)

pub returns-in_default-clause-front : goal.returns-in_default-clause-front
returns-in_default-clause-front c = no_symbol_front c.args.first (chars c.args.behind.now) c.requires.no_name c.requires.no_place (λ zs ys s e f. (let none = no_symbol c.args.first zs (λ e. omega (arith, e), (λ e. omega (arith, e), (λ e. omega (arith, e), (λ e. omega (arith, e), (λ e. omega (arith, e), (λ e. omega (arith, e), (λ e. omega (arith, e), (λ e. omega (arith, e), (λ e. omega (arith, e), (λ e. omega (arith, e), (λ e. omega (arith, e), (λ e. omega (arith, e), tt)))))))))))) in absurd cc))
