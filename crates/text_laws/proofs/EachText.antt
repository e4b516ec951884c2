-- Each text spells one document within the limits, or has one fault.
use Rattle.std.proofs.Common.{◌≡◌, ◌⊎◌, inl, inr, ℕ, ◌+◌, ◌-◌, List, [], length, Option, None, Some, refl, arith}
use Rattle.std.specs.Prelude.{Ok, Err}
use Rattle.std.proofs.lemmas.Bool.{cases_lt}
use Rattle.topos_model.specs.declared.doc.Doc.{Doc}
use Rattle.topos_model.specs.declared.fault.Fault.{Fault}
use Rattle.topos_model.specs.declared.fault.Fault.TheVariants.{NotText, BadToken, Syntax, TooMany}
use Rattle.topos_model.specs.declared.fault.Kind.TheVariants as kind
use Rattle.topos_text.specs.Tokens.{Token}
use Rattle.topos_text.specs.Trees.{DocumentTree}
use Rattle.topos_text.specs.Names.{Checked}
use Rattle.topos_text.specs.Limits.{most, token_fault}
use Rattle.topos_text.specs.Lexing.{Lex}
use Rattle.topos_text.specs.Documents.{IsDocument}
use Rattle.topos_text.specs.Resolving.{resolved}
use Rattle.topos_text.specs.TextFaults.{IsShort, SpellsWithin, TextFault, too_long, not_text, bad_token, too_many_in_tokens, no_document, at_name}
use Rattle.topos_text.specs.Laws.{TreesAreUnique, IsRead, IsRefused}
use Rattle.topos_tokens.proofs.Existence.{text_or_not, tokens_or_not}
use Rattle.topos_grammar.specs.Laws.{WhatIsReadIsADocument, ReadingStopsAtTheSyntaxPlace, ReadingDocumentsEnds}
use Rattle.document_limits.specs.Laws.{text_limits, LimitedDocumentsFit}
use Rattle.text_laws.proofs.FaultLaws.{faults_are_one, spelled_is_faultless, documents_are_one}

none_or_some : {A : Type 0} (a : Option A) → ((x : A) × (a ≡ Some x)) ⊎ (a ≡ None)
none_or_some (Some x) = inl (x, refl)
none_or_some None = inr refl

ok_or_err : (r : Checked Doc) → ((doc : Doc) × (r ≡ Ok doc)) ⊎ ((fault : Fault) × (r ≡ Err fault))
ok_or_err (Ok doc) = inl (doc, refl)
ok_or_err (Err fault) = inr (fault, refl)

module _ (trees : TreesAreUnique) (fit : LimitedDocumentsFit) (sound : WhatIsReadIsADocument) (place : ReadingStopsAtTheSyntaxPlace) (ends : ReadingDocumentsEnds) (bytes : List ℕ) where
  refused : (fault : Fault) → TextFault bytes fault → IsRead bytes ⊎ IsRefused bytes
  refused fault is = inr (record {
    fault = fault;
    is_fault = is;
    only = λ other h. faults_are_one trees bytes other fault h is;
    no_document = λ doc h. spelled_is_faultless trees fit bytes doc fault h is;
  })

  read : (doc : Doc) → SpellsWithin bytes doc → IsRead bytes ⊎ IsRefused bytes
  read doc h = inl (record {
    no_fault = λ fault is. spelled_is_faultless trees fit bytes doc fault h is;
    doc = doc;
    spells = h;
    only = λ other k. documents_are_one trees bytes other doc k h.spells;
  })

  module _ (short : IsShort bytes) (toks : List Token) (lex : Lex bytes toks) (few : token_fault [] toks ≡ None) where
    tree_text : (tree : DocumentTree) → IsDocument toks tree → IsRead bytes ⊎ IsRefused bytes
    tree_text tree d =
        elim (ok_or_err (resolved text_limits tree)) [
          | inl (doc, e) ↦
              let p = (fit tree doc).0 e in
              read doc (record { spells = record { tokens = toks; tree = tree; lex = lex; derives = d; resolves = p.0 }; len = short; tokens = few; fits = p.1 })
          | inr (fault, e) ↦ refused fault (at_name short lex few d e)
        ]

    lexed_text : IsRead bytes ⊎ IsRefused bytes
    lexed_text =
        elim (ends toks) [
          | inl (tree, rest, d) ↦ tree_text tree (sound toks rest tree d).1
          | inr (rest, d, le) ↦ let at = length toks + 1 - length rest in refused (Syntax at) (no_document short lex few (place toks rest at d (omega arith)))
        ]

  pub each_text : IsRead bytes ⊎ IsRefused bytes
  each_text =
      elim (cases_lt (most kind.Document) (length bytes)) [
        | inl long ↦ refused (TooMany kind.Document (most kind.Document)) (too_long long)
        | inr short ↦ elim (text_or_not bytes) [
          | inr (n, v) ↦ refused (NotText n) (not_text short v)
          | inl text ↦ elim (tokens_or_not bytes text) [
            | inr (n, b) ↦ refused (BadToken n) (bad_token short text b)
            | inl (toks, lex) ↦ elim (none_or_some (token_fault [] toks)) [
              | inl (fault, e) ↦ refused fault (too_many_in_tokens short lex e)
              | inr few ↦ lexed_text short toks lex few
            ]
          ]
        ]
      ]
