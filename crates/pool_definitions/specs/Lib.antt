pub mod DefinitionAt
