-- Written by tools/rules computed. `unfolding computed` opens every rule, so that a closed question computes.
use Rattle.rules.specs.Words
use Rattle.rules.specs.Utf8
use Rattle.rules.specs.Syntax
use Rattle.rules.specs.Options
use Rattle.rules.specs.Reader
use Rattle.rules.specs.Kinds
use Rattle.rules.specs.ReadTypes
use Rattle.rules.specs.ReadBodies
use Rattle.rules.specs.ReadDefinitions
use Rattle.rules.specs.Image
use Rattle.rules.specs.Types
use Rattle.rules.specs.Fits
use Rattle.rules.specs.Substitute
use Rattle.rules.specs.Refusal
use Rattle.rules.specs.Signatures
use Rattle.rules.specs.CheckSignature
use Rattle.rules.specs.Infer
use Rattle.rules.specs.Bodies
use Rattle.rules.specs.Project
use Rattle.rules.specs.Output
use Rattle.rules.specs.Answer
use Rattle.rules.specs.Projone
use Rattle.rules.specs.Edges
use Rattle.rules.specs.Typed

unfoldable pub computed : Unit {0}
unfolding Words.words Words.bytes_of Words.over_start Words.same Words.member Words.all_different Utf8.row_of Utf8.well_formed_from Syntax.run Syntax.expr_run Options.or_else Options.or Options.then Options.is_some Reader.bound Reader.◌>>=◌ Reader.give Reader.fail Reader.rule Reader.here Reader.first Reader.word Reader.below Reader.repeat Reader.many Reader.option Reader.maybe Reader.from Kinds.type_kind Kinds.expr_kind Kinds.statement_kind Kinds.definition_kind ReadTypes.sub_byte ReadTypes.wide ReadTypes.sized ReadTypes.bits_inline ReadTypes.type_node ReadTypes.type_tree ReadTypes.resolved_type ReadTypes.type_expr_node ReadTypes.type_expr_tree ReadTypes.type_expr ReadTypes.param ReadBodies.let_count ReadBodies.lets ReadBodies.expr_node ReadBodies.expr_tree ReadBodies.expression ReadBodies.statement_node ReadBodies.statement ReadBodies.block ReadBodies.body ReadDefinitions.message ReadDefinitions.generic_alias ReadDefinitions.trait_return ReadDefinitions.trait_function ReadDefinitions.trait ReadDefinitions.impl_function ReadDefinitions.implementation Image.new_text Image.different_texts Image.trailer Image.whole_rows Image.good_trailer Image.alias_at Image.name_row Image.string_row Image.definition_node Image.definition_row Image.rows Image.sections Image.schema Image.readable Types.same_type Types.is_numeric Types.is_signed_numeric Types.is_equality_type Types.is_float Types.contains_poison Types.normalize_return Types.return_words Types.same_return Fits.takes Fits.range_of Fits.int_of Fits.int_fits Fits.uint_fits Fits.literal_fits Fits.literal_own Substitute.primitive Substitute.number Substitute.definition_of Substitute.find_text Substitute.find_param Substitute.view Substitute.one_parameter Substitute.after Substitute.bounded Substitute.named_or_poison Substitute.lookup Substitute.lookup_primitive_alias Substitute.lookup_qualified Substitute.lookup_alias Substitute.resolve_name Substitute.expand Substitute.substitute_node Substitute.substitute_depth Substitute.substitute_type Refusal.◌>>=◌ Refusal.ensure Refusal.or_refuse Signatures.as_trait Signatures.poisoned_params Signatures.poisoned_return Signatures.find_trait Signatures.resolve_params Signatures.resolve_return Signatures.resolve_signature Signatures.expected_function Signatures.expected_list Signatures.expected_functions CheckSignature.check_params CheckSignature.check_signature Infer.type_of Infer.find_last Infer.field_of Infer.place Infer.operand_allowed Infer.unary_allowed Infer.place_type Infer.expression_hint Infer.type_mismatch Infer.ensure_same_type Infer.ended Infer.infer_literal Infer.binary_hint Infer.infer_expr Bodies.is_empty Bodies.with_local Bodies.project_return Bodies.assigned_field Bodies.project_statements Bodies.block_of Bodies.project_function Project.as_message Project.as_implementation Project.no_repeat Project.no_stranger Project.find_function Project.project_list Project.find_implementation Project.target_message Project.project_impl Project.expected_signatures Output.each Output.listed Output.param_words Output.signature_words Output.statement_words Output.function_words Output.functions_words Output.signatures_words Output.value_words Answer.refused Answer.accepted Answer.too_short Answer.finished Answer.answered Answer.project_call Answer.signatures_call Answer.project_answer Answer.signatures_answer Projone.lowest_from Projone.lowest_implementation Projone.lines Projone.projone Edges.typed_words Edges.counted_words Edges.projected_words Edges.ruled Edges.read_word Edges.answer_to Edges.nested Edges.optionals Typed.kind_node Typed.value_tree Typed.typed_statement_node Typed.typed_statement Typed.typed_param Typed.typed_signature Typed.typed_function
computed = tt
