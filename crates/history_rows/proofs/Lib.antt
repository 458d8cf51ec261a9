mod NameTables
